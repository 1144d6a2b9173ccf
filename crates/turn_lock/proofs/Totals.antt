-- What is counted over all views, where one view changes or a view is added.
use Rattle.std.proofs.Common.{◌≡◌, ◌≢◌, ℕ, zero, suc, ◌+◌, ◌<◌, ◌≤◌, List, [], ◌∷◌, ◌++◌, map, set, refl, sym, ap, arith, eq-eqb, ne_eqb, ◌==◌}
use mathlib.Core.Option.{some, some-injective, some-ne-none}
use lib.ListN.{get_elem?}
use Rattle.atomic_table.proofs.Lists.{at_map}
use Rattle.turn_lock.specs.Views.{total, one_if, times}

module _ {A : Type 0} (f : A → ℕ) where
  pub total_set : (xs : List A) (i : ℕ) (v w : A) → get_elem? xs i ≡ some v → total f (set xs i w) + f v ≡ total f xs + f w
  total_set [] i v w e = absurd (some-ne-none v (sym e))
  total_set (x ∷ xs) zero v w e = let h = ap f (some-injective x v e) in omega arith
  total_set (x ∷ xs) (suc i) v w e = let h = total_set xs i v w e in omega arith

  pub total_same : (xs : List A) (i : ℕ) (v w : A) → get_elem? xs i ≡ some v → f w ≡ f v → total f (set xs i w) ≡ total f xs
  total_same xs i v w e same = let h = total_set xs i v w e in omega arith

  pub total_at : (xs : List A) (i : ℕ) (v : A) → get_elem? xs i ≡ some v → f v ≤ total f xs
  total_at [] i v e = absurd (some-ne-none v (sym e))
  total_at (x ∷ xs) zero v e = let h = ap f (some-injective x v e) in omega arith
  total_at (x ∷ xs) (suc i) v e = let h = total_at xs i v e in omega arith

  pub total_two : (xs : List A) (i j : ℕ) (v w : A) → get_elem? xs i ≡ some v → get_elem? xs j ≡ some w → j ≢ i → f v + f w ≤ total f xs
  total_two [] i j v w e d n = absurd (some-ne-none v (sym e))
  total_two (x ∷ xs) zero zero v w e d n = absurd (n refl)
  total_two (x ∷ xs) zero (suc j) v w e d n = let h = ap f (some-injective x v e) in let k = total_at xs j w d in omega arith
  total_two (x ∷ xs) (suc i) zero v w e d n = let h = ap f (some-injective x w d) in let k = total_at xs i v e in omega arith
  total_two (x ∷ xs) (suc i) (suc j) v w e d n = let k = total_two xs i j v w e d (λ h. n (ap suc h)) in omega arith

  pub total_snoc : (xs : List A) (y : A) → total f (xs ++ y ∷ []) ≡ total f xs + f y
  total_snoc [] y = omega arith
  total_snoc (x ∷ xs) y = let h = total_snoc xs y in omega arith

  pub total_le : (g : A → ℕ) (xs : List A) → ((j : ℕ) (v : A) → get_elem? xs j ≡ some v → f v ≤ g v) → total f xs ≤ total g xs
  total_le g [] le = omega arith
  total_le g (x ∷ xs) le = let h = total_le g xs (λ j v e. le (suc j) v e) in let k = le 0 x refl in omega arith

  pub total_zero : (xs : List A) (i : ℕ) (v : A) → total f xs ≡ 0 → get_elem? xs i ≡ some v → f v ≡ 0
  total_zero xs i v none e = let h = total_at xs i v e in omega arith

pub one_at : (x k : ℕ) → x ≡ k → one_if (x == k) ≡ 1
one_at x k e = ap one_if (eq-eqb x k e)

pub none_at : (x k : ℕ) → x ≢ k → one_if (x == k) ≡ 0
none_at x k n = ap one_if (ne_eqb x k n)

-- a number that stands in a list of pairs is counted there
pub times_among : {A : Type 0} (k : ℕ) (pairs : List (ℕ × A)) (i : ℕ) (a : A) → get_elem? pairs i ≡ some (k, a) → 0 < times k (map (λ (p : ℕ × A). p.0) pairs)
times_among k pairs i a e = let at = total_at (λ x. one_if (x == k)) (map (λ p. p.0) pairs) i k (at_map (λ p. p.0) pairs i (k, a) e) in let one = one_at k k refl in omega arith
