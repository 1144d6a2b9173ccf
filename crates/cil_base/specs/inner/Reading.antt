-- The value at the front of the bytes, with what stays after it: the readers' own words, by the first byte. No public
-- contract cites them.
use Rattle.std.specs.Prelude.{ℕ, suc, ◌+◌, ◌-◌, ◌*◌, ◌/◌, ◌%◌, ◌^◌, ℤ, pos, negsuc, List, [], ◌∷◌, length}
use Rattle.std.specs.Prelude.{Option, Some, None, nat_lt, ◌==◌, ◌&&◌, if◌then◌else◌}

-- the two bytes' number, from the first byte without its mark
abbrev pub two_at : ℕ → List ℕ → Option (ℕ × List ℕ)
two_at a [] = None
two_at a (b ∷ s) = if nat_lt b 256 then Some (a * 0x100 + b, s) else None

-- the four bytes' number, from the first byte without its mark
abbrev pub four_at : ℕ → List ℕ → Option (ℕ × List ℕ)
four_at a [] = None
four_at a (b ∷ []) = None
four_at a (b ∷ c ∷ []) = None
four_at a (b ∷ c ∷ d ∷ s) =
    if nat_lt b 256 && nat_lt c 256 && nat_lt d 256 then Some (a * 0x1000000 + b * 0x10000 + c * 0x100 + d, s) else None

-- the compressed number at the front of the bytes, and what stays
unfoldable pub compressed_at : List ℕ → Option (ℕ × List ℕ)
compressed_at [] = None
compressed_at (a ∷ s) =
    if nat_lt a 0x80 then Some (a, s)
    else if nat_lt a 0xC0 then two_at (a - 0x80) s
    else if nat_lt a 0xE0 then four_at (a - 0xC0) s
    else None

-- the number whose so many bits, rotated left by one, are these: the lowest bit is its sign
abbrev pub unrotated : ℕ → ℕ → ℤ
unrotated bits n = if n % 2 == 0 then pos (n / 2) else negsuc (2 ^ (bits - 1) - 1 - n / 2)

-- the bits of the form that has so many bytes
abbrev pub bits_of : ℕ → ℕ
bits_of width = if width == 1 then 7 else if width == 2 then 14 else 29

-- the signed number that another spells in a form of so many bytes
abbrev pub signed_of : List ℕ → Option (ℕ × List ℕ) → Option (ℤ × List ℕ)
signed_of s None = None
signed_of s (Some p) = Some (unrotated (bits_of (length s - length p.1)) p.0, p.1)

-- the signed number at the front of the bytes, and what stays
unfoldable pub signed_at : List ℕ → Option (ℤ × List ℕ)
signed_at s = signed_of s (compressed_at s)

-- the bits of a number, rotated left by one, where the bit of its sign is worth so much
abbrev pub rotated_at : ℕ → ℤ → ℕ
rotated_at above (pos n) = 2 * n
rotated_at above (negsuc n) = 2 * (above - suc n) + 1
