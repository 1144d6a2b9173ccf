-- What a file calls for that is refused.
use Rattle.std.proofs.Common.{◌≡◌, ◌≢◌, refl, sym, subst, inl, inr, ℕ, ◌^◌, ◌≤◌, false, List, length, nat_lt, arith}
use Rattle.std.proofs.Common.{Option, Some, None}
use Rattle.std.proofs.lemmas.Bool.Decides.{nat_tests}
use Rattle.cil_outside.specs.Folder.{FolderReads, IsWithin}
use Rattle.cil_outside.specs.declared.files.NamedFile.{NamedFile}
use Rattle.cil_outside.specs.declared.folder.Got.TheVariants.{Found}
use Rattle.node_read.specs.Image.{RefusesImage}
use Rattle.node_read.specs.declared.image.OpenRefusal.{OpenRefusal}
use Rattle.node_read.specs.declared.image.OpenRefusal.TheVariants as opens
use Rattle.cecil_inspect.proofs.LimitLemmas.{told}
use Rattle.cecil_inspect.specs.Inspect.{BytesCallFor, CallsFor, LengthCallsFor, Writes}
use Rattle.cecil_inspect.specs.Steps.{Ends, IsRefused}
use Rattle.cecil_inspect.specs.declared.status.Status.{Status}
use Rattle.cecil_inspect.specs.declared.status.Status.TheVariants as ends
use Rattle.cecil_inspect.specs.declared.status.FileCause.TheVariants.{Refused}
use Rattle.cecil_inspect.specs.declared.words.Request.{Request}

pub not_longer : (n : ℕ) → n ≤ 2 ^ 26 → nat_lt (2 ^ 26) n ≡ false
not_longer n le = grind (arith, nat_tests)

-- the refusal of a read file is one with which reading may end
refusal_ends : (files : Option (List NamedFile)) (name b : List ℕ) (r : OpenRefusal)
    → FolderReads files name (2 ^ 26) (Found b) → length b ≤ 2 ^ 26 → r ≢ opens.NoMemory → RefusesImage b r
    → Ends files name (ends.File name (Refused r))
refusal_ends None name b r is le some refuses = (refl, told b r (not_longer (length b) le) some refuses)
refusal_ends (Some files) name b r is le some refuses =
    let status : Status = ends.File name (Refused r) in
    let short : nat_lt (2 ^ 26) (length b) ≡ false = not_longer (length b) le in
    let calls : BytesCallFor b name status = (refl, told b r short some refuses, refuses) in
    subst (λ o. CallsFor o name status) (sym is) (subst (λ t. LengthCallsFor t b name status) (sym short) calls)

-- and so is want of memory
memory_ends : (files : Option (List NamedFile)) (name : List ℕ) → Ends files name ends.NoMemory
memory_ends None name = tt
memory_ends (Some files) name = tt

pub refused_ends : (files : Option (List NamedFile)) (name bytes b : List ℕ) (r : OpenRefusal) (status : Status)
    → FolderReads files name (2 ^ 26) (Found bytes) → IsWithin (2 ^ 26) (Found bytes) → b ≡ bytes → RefusesImage b r
    → IsRefused r name status → Ends files name status
refused_ends files name bytes b r status is within same refuses (inl refused) =
    subst (λ s. Ends files name s) (sym refused.1)
    (refusal_ends files name b r (subst (λ x. FolderReads files name (2 ^ 26) (Found x)) (sym same) is)
    (subst (λ x. length x ≤ 2 ^ 26) (sym same) within) refused.0 refuses)
refused_ends files name bytes b r status is within same refuses (inr wants) =
    subst (λ s. Ends files name s) (sym wants) (memory_ends files name)

same_text : (new old : List ℕ) → Some new ≡ Some old → new ≡ old
same_text new old is = cc

-- where the status is neither Ok nor a failed write nothing was added
pub inspect_adds_nothing : (files : List NamedFile) (a : Option (List ℕ × Request)) (old new : List ℕ) (status : Status)
    → Writes (Some files) a (Some old) (Some new) status → status ≢ ends.Ok → status ≢ ends.WriteFault → new ≡ old
inspect_adds_nothing files None old new status is ok fault = same_text new old is
inspect_adds_nothing files (Some a) old new ends.Ok is ok fault = absurd (ok refl)
inspect_adds_nothing files (Some a) old new ends.Usage is ok fault = same_text new old is
inspect_adds_nothing files (Some a) old new (ends.Job refusal) is ok fault = same_text new old is
inspect_adds_nothing files (Some a) old new (ends.File name cause) is ok fault = same_text new old is
inspect_adds_nothing files (Some a) old new ends.ReadFault is ok fault = same_text new old is
inspect_adds_nothing files (Some a) old new ends.WriteFault is ok fault = absurd (fault refl)
inspect_adds_nothing files (Some a) old new ends.NoMemory is ok fault = same_text new old is
