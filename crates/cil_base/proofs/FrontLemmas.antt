-- Which number stands at the front of bytes, from the first four of them by their places.
use Rattle.std.proofs.Common.{◌≡◌, ℕ, ◌+◌, ◌-◌, ◌*◌, ◌<◌, ◌≤◌, List, [], ◌∷◌, length, get_or, drop, Some, None, ap, ◌∙◌, arith}
use Rattle.std.proofs.lemmas.Bool.Decides.{nat_tests}
use Rattle.cil_base.specs.Number.{strip_number}
use Rattle.cil_base.specs.inner.Reading.{compressed_at}
use Rattle.cil_base.proofs.NumberLemmas.{one-strips, two-strips, four-strips, compressed_at-none}

pub front-one : (s : List ℕ) (n : ℕ) → 1 ≤ length s → get_or s 0 0 < 0x80 → n ≡ get_or s 0 0 → strip_number n s ≡ Some (drop 1 s)
front-one [] n l h e = absurd (omega arith)
front-one (a ∷ s) n l h e = ap (λ (m : ℕ). strip_number m (a ∷ s)) e ∙ one-strips a s h

pub front-two : (s : List ℕ) (n : ℕ) → 2 ≤ length s → 0x80 ≤ get_or s 0 0 → get_or s 0 0 < 0xC0 → get_or s 1 0 < 256 → n ≡ (get_or s 0 0 - 0x80) * 0x100 + get_or s 1 0 → strip_number n s ≡ Some (drop 2 s)
front-two [] n l k h b e = absurd (omega arith)
front-two (a ∷ []) n l k h b e = absurd (omega arith)
front-two (a ∷ b ∷ s) n l k h i e = ap (λ (m : ℕ). strip_number m (a ∷ b ∷ s)) e ∙ two-strips a b s k h i

pub front-four : (s : List ℕ) (n : ℕ) → 4 ≤ length s → 0xC0 ≤ get_or s 0 0 → get_or s 0 0 < 0xE0 → get_or s 1 0 < 256 → get_or s 2 0 < 256 → get_or s 3 0 < 256
    → n ≡ (get_or s 0 0 - 0xC0) * 0x1000000 + get_or s 1 0 * 0x10000 + get_or s 2 0 * 0x100 + get_or s 3 0 → strip_number n s ≡ Some (drop 4 s)
front-four [] n l k h i j m e = absurd (omega arith)
front-four (a ∷ []) n l k h i j m e = absurd (omega arith)
front-four (a ∷ b ∷ []) n l k h i j m e = absurd (omega arith)
front-four (a ∷ b ∷ c ∷ []) n l k h i j m e = absurd (omega arith)
front-four (a ∷ b ∷ c ∷ d ∷ s) n l k h i j m e = ap (λ (p : ℕ). strip_number p (a ∷ b ∷ c ∷ d ∷ s)) e ∙ four-strips a b c d s k h i j m

none-empty : (s : List ℕ) → length s < 1 → compressed_at s ≡ None
unfolding compressed_at
none-empty [] l = grind arith
none-empty (a ∷ s) l = absurd (omega arith)

none-two : (s : List ℕ) → length s < 2 → 0x80 ≤ get_or s 0 0 → compressed_at s ≡ None
unfolding compressed_at
none-two [] l h = grind arith
none-two (a ∷ []) l h = grind (arith, nat_tests)
none-two (a ∷ b ∷ s) l h = absurd (omega arith)

none-four : (s : List ℕ) → length s < 4 → 0xC0 ≤ get_or s 0 0 → compressed_at s ≡ None
unfolding compressed_at
none-four [] l h = grind arith
none-four (a ∷ []) l h = grind (arith, nat_tests)
none-four (a ∷ b ∷ []) l h = grind (arith, nat_tests)
none-four (a ∷ b ∷ c ∷ []) l h = grind (arith, nat_tests)
none-four (a ∷ b ∷ c ∷ d ∷ s) l h = absurd (omega arith)

none-marked : (s : List ℕ) → 0xE0 ≤ get_or s 0 0 → compressed_at s ≡ None
unfolding compressed_at
none-marked [] h = grind arith
none-marked (a ∷ s) h = grind (arith, nat_tests)

pub front-empty : (s : List ℕ) → length s < 1 → (n : ℕ) → strip_number n s ≡ None
front-empty s l n = compressed_at-none s n (none-empty s l)

pub front-short_two : (s : List ℕ) → length s < 2 → 0x80 ≤ get_or s 0 0 → (n : ℕ) → strip_number n s ≡ None
front-short_two s l h n = compressed_at-none s n (none-two s l h)

pub front-short_four : (s : List ℕ) → length s < 4 → 0xC0 ≤ get_or s 0 0 → (n : ℕ) → strip_number n s ≡ None
front-short_four s l h n = compressed_at-none s n (none-four s l h)

pub front-no_form : (s : List ℕ) → 0xE0 ≤ get_or s 0 0 → (n : ℕ) → strip_number n s ≡ None
front-no_form s h n = compressed_at-none s n (none-marked s h)
