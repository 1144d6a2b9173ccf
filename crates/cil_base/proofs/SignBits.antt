-- The bits of signed numbers: two's complement, rotated left by one, for each form.
use Rattle.std.proofs.Common.{◌≡◌, ℕ, suc, ◌+◌, ◌-◌, ◌*◌, ◌/◌, ◌%◌, ◌^◌, ◌<◌, ℤ, pos, negsuc, true, false, cond, refl, ap, arith, eqb, ltb}
use Rattle.std.proofs.lemmas.Bool.Decides.{nat_tests}
use Rattle.cil_base.specs.Signed.{is_within, in_bits, rotated}
use Rattle.cil_base.specs.inner.Reading.{rotated_at, unrotated}

-- the rotated bits of a number, for each form
pub rotates-7 : (z : ℤ) → is_within 7 z ≡ true → rotated 7 (in_bits 7 z) < 2 ^ 7
rotates-7 (pos n) h = let l : n < 64 = grind (arith, nat_tests) in omega arith
rotates-7 (negsuc n) h = let l : n < 64 = grind (arith, nat_tests) in omega arith

pub rotates-14 : (z : ℤ) → is_within 14 z ≡ true → rotated 14 (in_bits 14 z) < 2 ^ 14
rotates-14 (pos n) h = let l : n < 8192 = grind (arith, nat_tests) in omega arith
rotates-14 (negsuc n) h = let l : n < 8192 = grind (arith, nat_tests) in omega arith

pub rotates-29 : (z : ℤ) → is_within 29 z ≡ true → rotated 29 (in_bits 29 z) < 2 ^ 29
rotates-29 (pos n) h = let l : n < 268435456 = grind (arith, nat_tests) in omega arith
rotates-29 (negsuc n) h = let l : n < 268435456 = grind (arith, nat_tests) in omega arith

chosen_sign : (n : ℕ) (x y z : ℤ) → (n % 2 ≡ 0 → x ≡ z) → (n % 2 ≡ 1 → y ≡ z) → cond (eqb (n % 2) 0) x y ≡ z
chosen_sign n x y z even odd =
    elim (eqb (n % 2) 0) as (λ b. eqb (n % 2) 0 ≡ b → cond b x y ≡ z) [
      | true ↦ λ e. even (grind (arith, nat_tests))
      | false ↦ λ e. let one : n % 2 ≡ 1 = grind (arith, nat_tests) in odd one
    ] refl

pub unrotates-7 : (z : ℤ) → is_within 7 z ≡ true → unrotated 7 (rotated 7 (in_bits 7 z)) ≡ z
unrotates-7 (pos n) h =
    let l : n < 64 = grind (arith, nat_tests) in
    chosen_sign (n * 2 % 128 + n / 64) _ _ (pos n) (λ e. ap pos (omega arith)) (λ o. absurd (omega arith))
unrotates-7 (negsuc n) h =
    let l : n < 64 = grind (arith, nat_tests) in
    chosen_sign ((128 - suc n) * 2 % 128 + (128 - suc n) / 64) _ _ (negsuc n) (λ e. absurd (omega arith)) (λ o. ap negsuc (omega arith))

pub unrotates-14 : (z : ℤ) → is_within 14 z ≡ true → unrotated 14 (rotated 14 (in_bits 14 z)) ≡ z
unrotates-14 (pos n) h =
    let l : n < 8192 = grind (arith, nat_tests) in
    chosen_sign (n * 2 % 16384 + n / 8192) _ _ (pos n) (λ e. ap pos (omega arith)) (λ o. absurd (omega arith))
unrotates-14 (negsuc n) h =
    let l : n < 8192 = grind (arith, nat_tests) in
    chosen_sign ((16384 - suc n) * 2 % 16384 + (16384 - suc n) / 8192) _ _ (negsuc n) (λ e. absurd (omega arith)) (λ o. ap negsuc (omega arith))

pub unrotates-29 : (z : ℤ) → is_within 29 z ≡ true → unrotated 29 (rotated 29 (in_bits 29 z)) ≡ z
unrotates-29 (pos n) h =
    let l : n < 268435456 = grind (arith, nat_tests) in
    chosen_sign (n * 2 % 536870912 + n / 268435456) _ _ (pos n) (λ e. ap pos (omega arith)) (λ o. absurd (omega arith))
unrotates-29 (negsuc n) h =
    let l : n < 268435456 = grind (arith, nat_tests) in
    chosen_sign ((536870912 - suc n) * 2 % 536870912 + (536870912 - suc n) / 268435456) _ _ (negsuc n) (λ e. absurd (omega arith)) (λ o. ap negsuc (omega arith))

-- the number is within so many bits, and these are its bits, rotated
pub record Unrotates (bits n : ℕ) (z : ℤ) : Type 0 where
  pub within : is_within bits z ≡ true
  pub bits_are : rotated bits (in_bits bits z) ≡ n

by_sign : (P : ℤ → Type 0) (n : ℕ) (x y : ℤ) → (n % 2 ≡ 0 → P x) → (n % 2 ≡ 1 → P y) → P (cond (eqb (n % 2) 0) x y)
by_sign P n x y even odd =
    elim (eqb (n % 2) 0) as (λ b. eqb (n % 2) 0 ≡ b → P (cond b x y)) [
      | true ↦ λ e. even (grind (arith, nat_tests))
      | false ↦ λ e. let one : n % 2 ≡ 1 = grind (arith, nat_tests) in odd one
    ] refl

pub within_test : (n m : ℕ) → n < m → ltb n m ≡ true
within_test n m h = grind (arith, nat_tests)

pub back-7 : (n : ℕ) → n < 2 ^ 7 → Unrotates 7 n (unrotated 7 n)
back-7 n h = by_sign (Unrotates 7 n) n _ _
    (λ e. record { within = within_test (n / 2) 64 (omega arith); bits_are = omega arith })
    (λ o. record { within = within_test (64 - 1 - n / 2) 64 (omega arith); bits_are = omega arith })

pub back-14 : (n : ℕ) → n < 2 ^ 14 → Unrotates 14 n (unrotated 14 n)
back-14 n h = by_sign (Unrotates 14 n) n _ _
    (λ e. record { within = within_test (n / 2) 8192 (omega arith); bits_are = omega arith })
    (λ o. record { within = within_test (8192 - 1 - n / 2) 8192 (omega arith); bits_are = omega arith })

pub back-29 : (n : ℕ) → n < 2 ^ 29 → Unrotates 29 n (unrotated 29 n)
back-29 n h = by_sign (Unrotates 29 n) n _ _
    (λ e. record { within = within_test (n / 2) 268435456 (omega arith); bits_are = omega arith })
    (λ o. record { within = within_test (268435456 - 1 - n / 2) 268435456 (omega arith); bits_are = omega arith })

pub turns-7 : (z : ℤ) → is_within 7 z ≡ true → rotated_at 64 z ≡ rotated 7 (in_bits 7 z)
turns-7 (pos n) h = let l : n < 64 = grind (arith, nat_tests) in omega arith
turns-7 (negsuc n) h = let l : n < 64 = grind (arith, nat_tests) in omega arith

pub turns-14 : (z : ℤ) → is_within 14 z ≡ true → rotated_at 8192 z ≡ rotated 14 (in_bits 14 z)
turns-14 (pos n) h = let l : n < 8192 = grind (arith, nat_tests) in omega arith
turns-14 (negsuc n) h = let l : n < 8192 = grind (arith, nat_tests) in omega arith

pub turns-29 : (z : ℤ) → is_within 29 z ≡ true → rotated_at 268435456 z ≡ rotated 29 (in_bits 29 z)
turns-29 (pos n) h = let l : n < 268435456 = grind (arith, nat_tests) in omega arith
turns-29 (negsuc n) h = let l : n < 268435456 = grind (arith, nat_tests) in omega arith
