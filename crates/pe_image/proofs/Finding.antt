-- What a search that found an item says of it.
use Rattle.std.proofs.Common.{◌≡◌, Bool, true, false, cond, List, [], ◌∷◌, ◌∙◌, sym, ap, refl}
use Rattle.std.specs.Prelude.{Option, Some, find}

found_by : {X : Type 0} (p : X → Bool) (x y : X) (b : Bool) (rest : Option X) → p x ≡ b → (rest ≡ Some y → p y ≡ true) → cond b (Some x) rest ≡ Some y → p y ≡ true
found_by p x y true rest e f h = let same : x ≡ y = cc in ap p (sym same) ∙ e
found_by p x y false rest e f h = f h

pub find-passes : {X : Type 0} (p : X → Bool) (xs : List X) (y : X) → find p xs ≡ Some y → p y ≡ true
find-passes p [] y h = cc
find-passes p (x ∷ xs) y h = found_by p x y (p x) (find p xs) refl (find-passes p xs y) h
