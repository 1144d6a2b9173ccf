-- Bytes written as ASCII text that can be read back.
use Rattle.std.specs.Prelude.{ℕ, ◌+◌, ◌/◌, ◌%◌, ◌==◌, ◌||◌, ◌&&◌, nat_lt, nat_le, if◌then◌else◌, List, [], ◌∷◌}
use Rattle.std.specs.List.{flat_map}

-- the lower-case hex digit of a number below 16
abbrev pub lower_hex : ℕ → ℕ
lower_hex n = if nat_lt n 10 then 0x30 + n else 0x57 + n

-- the two hex digits of a byte, the higher first
abbrev pub hex_pair : ℕ → List ℕ
hex_pair n = lower_hex (n / 16) ∷ lower_hex (n % 16) ∷ []

-- a byte from 20 to 7E stands as it is, with `\` before `"` and `\`; every other one is `\x` and two digits
abbrev pub escaped_byte : ℕ → List ℕ
escaped_byte n =
    if (n == 0x22) || (n == 0x5c) then 0x5c ∷ n ∷ []
    else (if nat_le 0x20 n && nat_le n 0x7e then n ∷ [] else 0x5c ∷ 0x78 ∷ hex_pair n)

-- the escaped forms one after the other
abbrev pub escaped : List ℕ → List ℕ
escaped bytes = flat_map escaped_byte bytes
