-- Lists of which some items were passed.
use Rattle.std.proofs.Common.{◌≡◌, refl, ℕ, zero, suc, ◌+◌, List, [], ◌∷◌, drop, add-one}

without_first : {X : Type 0} (xs : List X) (n : ℕ) → drop 1 (drop n xs) ≡ drop (suc n) xs
without_first [] zero = refl
without_first [] (suc n) = refl
without_first (x ∷ xs) zero = refl
without_first (x ∷ xs) (suc n) = without_first xs n

pub one_passed : {X : Type 0} (xs : List X) (n : ℕ) → drop 1 (drop n xs) ≡ drop (n + 1) xs
one_passed xs n = rw add-one (without_first xs n)
