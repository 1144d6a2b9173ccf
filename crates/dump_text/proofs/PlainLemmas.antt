-- Bytes that stand in quotes as they are.
use Rattle.std.proofs.Common.{◌≡◌, refl, ap₂, ℕ, Bool, true, false, List, [], ◌∷◌, ◌++◌, nat_le}
use Rattle.std.specs.Prelude.{◌==◌, ◌&&◌, ◌||◌, not, if◌then◌else◌}
use Rattle.std.specs.List.{list_all}
use Rattle.std.proofs.lemmas.Bool.{and_parts}
use Rattle.cil_base.specs.Escape.{escaped, escaped_byte}
use Rattle.dump_text.specs.inner.Plain.{is_unescaped}

by_tests : (x y : Bool) (a b c : List ℕ) → (not x && y) ≡ true → (if x then a else (if y then b else c)) ≡ b
by_tests true y a b c e = absurd cc
by_tests false true a b c e = refl
by_tests false false a b c e = absurd cc

plain-byte : (n : ℕ) → is_unescaped n ≡ true → escaped_byte n ≡ n ∷ []
plain-byte n e = by_tests ((n == 0x22) || (n == 0x5c)) (nat_le 0x20 n && nat_le n 0x7e) _ (n ∷ []) _ e

-- where all stand as they are, so does the text
pub all_plain : (bytes : List ℕ) → list_all is_unescaped bytes ≡ true → escaped bytes ≡ bytes
all_plain [] e = refl
all_plain (n ∷ ns) e =
    let parts = and_parts (is_unescaped n) (list_all is_unescaped ns) e in
    ap₂ (λ (front rest : List ℕ). front ++ rest) (plain-byte n parts.0) (all_plain ns parts.1)
