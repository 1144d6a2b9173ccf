-- Numbers in bytes, by their places. In an image each is little-endian (ECMA-335 II.24.2, II.25).
use Rattle.std.specs.Prelude.{ℕ, ◌+◌, Bool, List, [], ◌∷◌, length, nat_le, Result, Ok, Err, if◌then◌else◌}
use Rattle.byteorder.specs.Endian.{little_from}

-- the number in the two, four or eight bytes from a place
unfoldable pub u16_at : List ℕ → ℕ → ℕ
u16_at b place = little_from place 2 b

unfoldable pub u32_at : List ℕ → ℕ → ℕ
u32_at b place = little_from place 4 b

unfoldable pub u64_at : List ℕ → ℕ → ℕ
u64_at b place = little_from place 8 b

-- whether n bytes stand at a place
abbrev pub stands : List ℕ → ℕ → ℕ → Bool
stands b place n = nat_le (place + n) (length b)

-- the refusal of the first condition that holds, or the answer where none does
abbrev pub first_refusal : {A E : Type 0} → List (Bool × E) → A → Result A E
first_refusal [] answer = Ok answer
first_refusal (c ∷ cs) answer = if c.0 then Err c.1 else first_refusal cs answer
