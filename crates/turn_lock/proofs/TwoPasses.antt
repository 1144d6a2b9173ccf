-- For callers with two passes.
use Rattle.std.proofs.Common.{◌≡◌, ℕ, zero, suc, ◌<◌, List, [], ◌∷◌, ◌++◌, length, length-append, map, slice_index_or, refl, ap, arith, Some, Any}
use Rattle.std.specs.List.{range_with_len}
use Rattle.turn_lock.specs.Passes.{LockValue, PassValue, IsPassOf, new_pass, fresh_passes, AreAllOf}

-- what is left of two items without the last one
pub last_of_two : {A : Type 0} (xs : List A) (last a b : A) → a ∷ b ∷ [] ≡ xs ++ last ∷ [] → (xs ≡ a ∷ []) × (last ≡ b)
last_of_two [] last a b e = absurd (let h : length (a ∷ b ∷ []) ≡ length (last ∷ []) = ap length e in omega arith)
last_of_two (x ∷ []) last a b e = (cc, cc)
last_of_two (x ∷ y ∷ zs) last a b e = absurd (let h : length (a ∷ b ∷ []) ≡ length (x ∷ y ∷ (zs ++ last ∷ [])) = ap length e in omega (arith, length-append zs (last ∷ [])))

pub last_of_one : {A : Type 0} (xs : List A) (last a : A) → a ∷ [] ≡ xs ++ last ∷ [] → last ≡ a
last_of_one [] last a e = cc
last_of_one (x ∷ zs) last a e = absurd (let h : length (a ∷ []) ≡ length (x ∷ (zs ++ last ∷ [])) = ap length e in omega (arith, length-append zs (last ∷ [])))

module _ {B E : Type 0} (l : LockValue B) (two : l.callers ≡ 2) where
  pub fresh_two : fresh_passes {E = E} l ≡ new_pass l.id (Some l.base) 0 ∷ new_pass l.id (Some l.base) 1 ∷ []
  fresh_two = ap (λ n. map (new_pass {E = E} l.id (Some l.base)) (range_with_len 0 n)) two

  pub two_are_all : (p q : PassValue B E) → IsPassOf l p → IsPassOf l q → p.number ≡ 0 → q.number ≡ 1 → AreAllOf l (p ∷ q ∷ [])
  two_are_all p q here there first second = (each, found) where
    each : (k : ℕ) (d : PassValue B E) → k < 2 → IsPassOf l (slice_index_or (p ∷ q ∷ []) k d)
    each zero d less = here
    each (suc zero) d less = there
    each (suc (suc k)) d less = absurd (omega arith)

    found : (k : ℕ) → k < l.callers → Any (λ (x : PassValue B E). x.number ≡ k) (p ∷ q ∷ [])
    found zero less = (0, p, omega arith, refl, first)
    found (suc zero) less = (1, q, omega arith, refl, second)
    found (suc (suc k)) less = absurd (omega arith)
