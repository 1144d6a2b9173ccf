-- What a run comes to over files and an outlet of which no call fails.
use Rattle.std.proofs.Common.{◌≡◌, ◌≢◌, refl, subst, inl, inr, ◌⊎◌, ◌++◌, ℕ, List, Option, Some, None, arith}
use Rattle.std.specs.Prelude.{MatchOption}
use Rattle.cecil_inspect.proofs.InspectLemmas.{inspect_adds_nothing}
use Rattle.cecil_inspect.specs.Inspect.{Writes}
use Rattle.cecil_inspect.specs.Words.{asked}
use Rattle.cecil_inspect.specs.declared.status.Status.{Status}
use Rattle.cecil_inspect.specs.declared.status.Status.TheVariants as ends
use Rattle.cil_outside.specs.Causes.{Rose}
use Rattle.cil_outside.specs.declared.files.NamedFile.{NamedFile}
use Rattle.cecil_top.specs.Tool.{IsRunOf, RunWrites}

-- a count that stays did not rise
pub stays : Rose 0 0 → ⊥
stays rose = omega (arith, rose)

-- what is said of `run JOB` is said where the words ask for it
pub said_of_some : {A : Type 0} (o : Option A) (a : A) (N : Type 0) (S : A → Type 0) → o ≡ Some a
    → MatchOption o N S → S a
said_of_some o a N S is holds = subst (λ x. MatchOption x N S) is holds

same_text : (new old : List ℕ) → Some new ≡ Some old → new ≡ old
same_text new old is = cc

-- the text of a run that ends with Ok was added
pub sound_ends : (files : List NamedFile) (name old new : List ℕ) (status : Status)
    → RunWrites (Some files) name (Some old) (Some new) status → (status ≡ ends.Ok) ⊎ (status ≡ ends.NoMemory)
    → ((status ≡ ends.Ok) × ((text : List ℕ) × IsRunOf (Some files) name text × (new ≡ old ++ text)))
    ⊎ (status ≡ ends.NoMemory)
sound_ends files name old new status writes (inr wants) = inr wants
sound_ends files name old new status writes (inl ok) =
    let added : RunWrites (Some files) name (Some old) (Some new) ends.Ok =
    subst (λ s. RunWrites (Some files) name (Some old) (Some new) s) ok writes in
    let told : (text : List ℕ) × IsRunOf (Some files) name text × (new ≡ old ++ text) =
    (added.0, added.1, same_text new (old ++ added.0) added.2) in
    inl (ok, told)

-- where the status is neither Ok nor a failed write nothing was added by a run,
run_adds_nothing : (files : List NamedFile) (name old new : List ℕ) (status : Status)
    → RunWrites (Some files) name (Some old) (Some new) status → status ≢ ends.Ok → status ≢ ends.WriteFault → new ≡ old
run_adds_nothing files name old new ends.Ok is ok fault = absurd (ok refl)
run_adds_nothing files name old new ends.Usage is ok fault = same_text new old is
run_adds_nothing files name old new (ends.Job refusal) is ok fault = same_text new old is
run_adds_nothing files name old new (ends.File other cause) is ok fault = same_text new old is
run_adds_nothing files name old new ends.ReadFault is ok fault = same_text new old is
run_adds_nothing files name old new ends.WriteFault is ok fault = absurd (fault refl)
run_adds_nothing files name old new ends.NoMemory is ok fault = same_text new old is

-- or for any words
pub adds_nothing : (files : List NamedFile) (words : List (List ℕ)) (o : Option (List ℕ)) (old new : List ℕ) (status : Status)
    → MatchOption o (Writes (Some files) (asked words) (Some old) (Some new) status)
    (λ name. RunWrites (Some files) name (Some old) (Some new) status)
    → status ≢ ends.Ok → status ≢ ends.WriteFault → new ≡ old
adds_nothing files words (Some name) old new status is ok fault = run_adds_nothing files name old new status is ok fault
adds_nothing files words None old new status is ok fault =
    inspect_adds_nothing files (asked words) old new status is ok fault
