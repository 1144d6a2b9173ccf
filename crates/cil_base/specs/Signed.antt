-- Compressed signed numbers, by the number: ECMA-335 II.23.2.
use Rattle.std.specs.Prelude.{ℕ, suc, ◌+◌, ◌-◌, ◌*◌, ◌/◌, ◌%◌, ◌^◌, ℤ, pos, negsuc}
use Rattle.std.specs.Prelude.{Bool, List, Option, None, nat_lt, if◌then◌else◌}
use Rattle.std.specs.Option.{option_or}
use Rattle.cil_base.specs.Number.{Form, one_byte_form, two_bytes_form, four_bytes_form, strip_bytes, written}

-- the number lies from -2^(bits - 1) to 2^(bits - 1) - 1
abbrev pub is_within : ℕ → ℤ → Bool
is_within bits (pos n) = nat_lt n (2 ^ (bits - 1))
is_within bits (negsuc n) = nat_lt n (2 ^ (bits - 1))

-- two's complement in so many bits
abbrev pub in_bits : ℕ → ℤ → ℕ
in_bits bits (pos n) = n
in_bits bits (negsuc n) = 2 ^ bits - suc n

-- so many bits, rotated left by one
abbrev pub rotated : ℕ → ℕ → ℕ
rotated bits n = n * 2 % 2 ^ bits + n / 2 ^ (bits - 1)

-- the number in that form
abbrev pub written_signed : Form → ℤ → List ℕ
written_signed form z = written form (rotated form.bits (in_bits form.bits z))

-- what stays after the number in that form, where the form's bits hold it
abbrev pub strip_signed_form : Form → ℤ → List ℕ → Option (List ℕ)
strip_signed_form form z s = if is_within form.bits z then strip_bytes (written_signed form z) s else None

-- what stays after the number in any form that holds it
unfoldable pub strip_signed : ℤ → List ℕ → Option (List ℕ)
strip_signed z s =
    option_or (strip_signed_form one_byte_form z s)
    (option_or (strip_signed_form two_bytes_form z s) (strip_signed_form four_bytes_form z s))

-- a number from -2^28 to 2^28 - 1 in the shortest form that holds it
unfoldable pub spelled_signed : ℤ → List ℕ
spelled_signed z =
    if is_within 7 z then written_signed one_byte_form z
    else if is_within 14 z then written_signed two_bytes_form z
    else written_signed four_bytes_form z
