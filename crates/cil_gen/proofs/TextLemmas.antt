-- The names of the new rows have no zero byte.
use Rattle.std.proofs.Common.{◌≡◌, refl, ◌∙◌, ℕ, zero, suc, ◌+◌, ◌/◌, ◌%◌, Bool, true, false, cond, not, List, [], ◌∷◌, Some, None, arith}
use Rattle.std.specs.Fmt.{decimal, digit_glyph, digits, digits_onto}
use Rattle.std.specs.List.{list_all, position, position_from}
use Rattle.std.specs.Prelude.{◌==◌, if◌then◌else◌}
use Rattle.std.proofs.lemmas.Bool.{and_parts}
use Rattle.std.proofs.lemmas.Bool.Decides.{nat_tests}
use Rattle.std.proofs.lemmas.Iterator.Adapters.{position_from-zero}

abbrev is_zero : ℕ → Bool
is_zero b = b == 0

abbrev pub has_no_zero : List ℕ → Bool
has_no_zero text = list_all (λ b. not (is_zero b)) text

none_from : (k : ℕ) (text : List ℕ) → has_no_zero text ≡ true → position_from is_zero k text ≡ None
none_from k [] all = refl
none_from k (b ∷ text) all = by_test (is_zero b) parts.0 (none_from (k + 1) text parts.1)
  where
    parts : (not (is_zero b) ≡ true) × (has_no_zero text ≡ true)
    parts = and_parts (not (is_zero b)) (has_no_zero text) all

    by_test : (x : Bool) → not x ≡ true → position_from is_zero (k + 1) text ≡ None → cond x (Some k) (position_from is_zero (k + 1) text) ≡ None
    by_test true not_zero rest = absurd cc
    by_test false not_zero rest = rest

-- so that no zero byte is found in them
pub none_is_zero : (text : List ℕ) → has_no_zero text ≡ true → position (λ b. b == 0) text ≡ None
none_is_zero text all = position_from-zero is_zero text ∙ none_from 0 text all

glyph_is_none : (d : ℕ) → not (is_zero (digit_glyph false d)) ≡ true
glyph_is_none d = grind (arith, nat_tests)

onto_has_none : (k n : ℕ) (text : List ℕ) → has_no_zero text ≡ true → has_no_zero (digits_onto k 10 false n text) ≡ true
onto_has_none zero n text all = all
onto_has_none (suc k) n text all = by_test (n / 10 == 0) (onto_has_none k (n / 10) (digit_glyph false (n % 10) ∷ text) first)
  where
    first : has_no_zero (digit_glyph false (n % 10) ∷ text) ≡ true
    first = rw (glyph_is_none (n % 10), all) refl

    by_test : (x : Bool) → has_no_zero (digits_onto k 10 false (n / 10) (digit_glyph false (n % 10) ∷ text)) ≡ true
        → has_no_zero (if x then digit_glyph false (n % 10) ∷ text else digits_onto k 10 false (n / 10) (digit_glyph false (n % 10) ∷ text)) ≡ true
    by_test true rest = first
    by_test false rest = rest

pub decimal_has_none : (n : ℕ) → has_no_zero (decimal n) ≡ true
unfolding digits
decimal_has_none n = onto_has_none 64 n [] refl
