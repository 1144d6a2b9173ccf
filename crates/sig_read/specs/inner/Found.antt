-- The reader's own words: what is read so far, and what is still to be read. No public contract cites them.
use Rattle.std.specs.Prelude.{◌≡◌, ℕ, List, ◌++◌, Option, Some, None, option_map}
use Rattle.std.specs.Borrow.{Bor}
use Rattle.sig_tree.specs.Fronts.{wrap}
use Rattle.sig_tree.specs.declared.tree.Sentinel.{Sentinel}
use Rattle.sig_tree.specs.declared.tree.Sentinel.TheVariants.{Before}
use Rattle.sig_tree.specs.declared.tree.TypeSig.{TypeSig}

-- items with others before them
abbrev pub fronted : {A : Type 0} → List A → Option (List A × List ℕ) → Option (List A × List ℕ)
fronted {A} before found = wrap {A = List A} {B = List A} (λ xs. before ++ xs) found

-- so many parameters after a sentinel at that number
abbrev pub marked : ℕ → Option (List TypeSig × List ℕ) → Option (List TypeSig × Sentinel × List ℕ)
marked at found =
    option_map {T = List TypeSig × List ℕ} {U = List TypeSig × Sentinel × List ℕ} (λ x. (x.0, Before at, x.1)) found

-- parameters with others before them
abbrev pub fronted_params : List TypeSig → Option (List TypeSig × Sentinel × List ℕ)
    → Option (List TypeSig × Sentinel × List ℕ)
fronted_params before found =
    option_map {T = List TypeSig × Sentinel × List ℕ} {U = List TypeSig × Sentinel × List ℕ}
    (λ x. (before ++ x.0, x.1, x.2)) found

-- an answer of the parser, with the bytes that are left
abbrev pub FindsFront : {A : Type 0} → Option (A × Bor (List ℕ)) → Option (A × List ℕ) → Type 0
FindsFront None expected = expected ≡ None
FindsFront (Some x) expected = expected ≡ Some (x.0, x.1.now)

-- the parser's answer on parameters, with the bytes that are left
abbrev pub FindsParams : Option (List TypeSig × Sentinel × Bor (List ℕ))
    → Option (List TypeSig × Sentinel × List ℕ) → Type 0
FindsParams None expected = expected ≡ None
FindsParams (Some x) expected = expected ≡ Some (x.0, x.1, x.2.now)
