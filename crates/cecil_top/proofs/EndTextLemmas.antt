-- Items with commas between them.
use Rattle.std.proofs.Common.{◌≡◌, ℕ, List, [], ◌∷◌, ◌++◌, Bool, true, false, refl, ap, sym}
use Rattle.std.proofs.lemmas.List.{append-nil}
use Rattle.std.specs.List.{join_with_byte}
use Rattle.std.specs.Prelude.{codes, if◌then◌else◌}
use Rattle.dump_text.specs.Pieces.{quoted}
use Rattle.resolver.specs.declared.next.Next.TheVariants as ends
use Rattle.cecil_top.specs.EndTexts.{end_text}

-- items with a comma before each but the first; `first` is true where none stands before them
abbrev pub in_commas : Bool → List (List ℕ) → List ℕ
in_commas first [] = []
in_commas first (x ∷ xs) = (if first then [] else 0x2c ∷ []) ++ x ++ in_commas false xs

further : (x : List ℕ) (xs : List (List ℕ)) → join_with_byte 0x2c (x ∷ xs) ≡ x ++ in_commas false xs
further x [] = sym (append-nil x)
further x (y ∷ xs) = ap (λ (s : List ℕ). x ++ 0x2c ∷ s) (further y xs)

pub joined : (xs : List (List ℕ)) → join_with_byte 0x2c xs ≡ in_commas true xs
joined [] = refl
joined (x ∷ xs) = further x xs

pub unresolved : (name : List ℕ) → codes "unresolved " ++ quoted name ≡ end_text (ends.Unresolved name)
unfolding end_text
unresolved name = refl
