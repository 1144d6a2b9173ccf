-- Numbers at places of bytes, the lowest byte first: ECMA-335 II.24.2.6, II.25.1.
use Rattle.std.specs.Prelude.{ℕ, ◌+◌, List, length, Option, Some, None, nat_le, if◌then◌else◌}
use Rattle.byteorder.specs.Endian.{little_from}

-- the number in so many bytes from a place on
unfoldable pub number_at : List ℕ → ℕ → ℕ → ℕ
number_at bytes place width = little_from place width bytes

-- the same, where the bytes are there
unfoldable pub number_within : List ℕ → ℕ → ℕ → Option ℕ
number_within bytes place width =
    if nat_le (place + width) (length bytes) then Some (number_at bytes place width) else None
