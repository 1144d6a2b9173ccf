-- A search among the numbers from one on.
use Rattle.std.proofs.Common.{◌≡◌, ℕ, suc, ◌+◌, ◌-◌, ◌<◌, ◌≤◌, Bool, Some, None, cond, refl, arith}
use Rattle.job_text.specs.Names.{first_from}

pub first_more : (p : ℕ → Bool) (n i : ℕ) → i < n → first_from p (n - i) i ≡ cond (p i) (Some i) (first_from p (n - (i + 1)) (i + 1))
unfolding first_from
first_more p n i h = let e : n - i ≡ suc (n - (i + 1)) = omega arith in rw e refl

pub first_over : (p : ℕ → Bool) (n i : ℕ) → n ≤ i → first_from p (n - i) i ≡ None
unfolding first_from
first_over p n i h = let e : n - i ≡ 0 = omega arith in rw e refl
