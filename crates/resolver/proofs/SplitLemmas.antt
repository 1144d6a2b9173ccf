-- The parts between the items that pass a test, one item after the other.
use Rattle.std.proofs.Common.{◌≡◌, refl, sym, ◌∙◌, ap, Bool, true, false, cond, List, [], ◌∷◌, ◌++◌, append_assoc}
use Rattle.std.proofs.lemmas.List.{append-nil}
use Rattle.std.specs.List.{onto_first, slice_split}
use Rattle.resolver.specs.inner.Splits.{glued}

-- there is a part always
pub glued_none : {X : Type 0} (p : X → Bool) (xs : List X) → glued [] (slice_split p xs) ≡ slice_split p xs
glued_none p [] = refl
glued_none {X = X} p (x ∷ xs) = by_test (p x) (slice_split p xs)
  where
    by_onto : (parts : List (List X)) → glued [] (onto_first x parts) ≡ onto_first x parts
    by_onto [] = refl
    by_onto (part ∷ parts) = refl

    by_test : (b : Bool) (parts : List (List X)) → glued [] (cond b ([] ∷ parts) (onto_first x parts)) ≡ cond b ([] ∷ parts) (onto_first x parts)
    by_test true parts = refl
    by_test false parts = by_onto parts

-- an item that passes ends a part
glued_end : {X : Type 0} (p : X → Bool) (front : List X) (x : X) (xs : List X) → p x ≡ true
    → glued front (slice_split p (x ∷ xs)) ≡ front ∷ slice_split p xs
glued_end p front x xs is =
    ap (λ b. glued front (cond b ([] ∷ slice_split p xs) (onto_first x (slice_split p xs)))) is
    ∙ ap (λ items. items ∷ slice_split p xs) (append-nil front)

-- parts that are told, the last of which an item ends
pub parts_end : {X : Type 0} (p : X → Bool) (parts : List (List X)) (front : List X) (x : X) (xs : List X) → p x ≡ true
    → (parts ++ front ∷ []) ++ glued [] (slice_split p xs) ≡ parts ++ glued front (slice_split p (x ∷ xs))
parts_end p parts front x xs is =
    append_assoc parts (front ∷ []) (glued [] (slice_split p xs))
    ∙ ap (λ rest. parts ++ front ∷ rest) (glued_none p xs) ∙ ap (λ rest. parts ++ rest) (sym (glued_end p front x xs is))
