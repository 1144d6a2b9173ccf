-- The digits of a number, from a place on.
use Rattle.std.proofs.Common.{◌≡◌, ◌∙◌, ℕ, ◌+◌, ◌-◌, ◌*◌, ◌<◌, ◌≤◌, List, [], ◌∷◌, length, drop, get_or, Bool, cond, Some, None, nat_le, ◌&&◌, sym, ap, arith}
use Rattle.std.proofs.lemmas.Bool.Decides.{nat_tests}
use Rattle.std.proofs.lemmas.List.{at_drop_more, drop_all}
use Rattle.job_text.specs.Tokens.{command_place, decimal_from}

abbrev is_digit : ℕ → Bool
is_digit b = nat_le 48 b && nat_le b 57

step : (n : ℕ) (s : List ℕ) (i : ℕ) → i < length s → decimal_from n (drop i s) ≡ cond (is_digit (get_or s i 0)) (decimal_from (10 * n + (get_or s i 0 - 48)) (drop (i + 1) s)) None
unfolding decimal_from
step n s i h = at_drop_more (decimal_from n) s i 0 h

pub digit_next : (n : ℕ) (s : List ℕ) (i : ℕ) → i < length s → 48 ≤ get_or s i 0 → get_or s i 0 ≤ 57 → decimal_from (10 * n + (get_or s i 0 - 48)) (drop (i + 1) s) ≡ decimal_from n (drop i s)
digit_next n s i h low high = let e = step n s i h in grind (arith, nat_tests, e)

pub digit_low : (n : ℕ) (s : List ℕ) (i : ℕ) → i < length s → get_or s i 0 < 48 → decimal_from n (drop i s) ≡ None
digit_low n s i h low = let e = step n s i h in grind (arith, nat_tests, e)

pub digit_high : (n : ℕ) (s : List ℕ) (i : ℕ) → i < length s → 57 < get_or s i 0 → decimal_from n (drop i s) ≡ None
digit_high n s i h high = let e = step n s i h in grind (arith, nat_tests, e)

pub digit_over : (n : ℕ) (s : List ℕ) (i : ℕ) → length s ≤ i → decimal_from n (drop i s) ≡ Some n
unfolding decimal_from
digit_over n s i h = ap (decimal_from n) (drop_all i s h)

-- a number that is too large stays so
pub number_large : (bs : List ℕ) (n : ℕ) → 4096 ≤ n → command_place (decimal_from n bs) ≡ None
unfolding decimal_from
number_large [] n h = grind (arith, nat_tests)
number_large (b ∷ bs) n h = let e = number_large bs (10 * n + (b - 48)) (omega arith) in grind (arith, e)

-- digits that made a number too large, and what follows them
pub digit_large : (n : ℕ) (s : List ℕ) (i : ℕ) → i < length s → 48 ≤ get_or s i 0 → get_or s i 0 ≤ 57 → 4096 ≤ 10 * n + (get_or s i 0 - 48) → command_place (decimal_from n (drop i s)) ≡ None
digit_large n s i h low high large =
    ap command_place (sym (digit_next n s i h low high)) ∙ number_large (drop (i + 1) s) (10 * n + (get_or s i 0 - 48)) large
