-- Compressed numbers, by the number: ECMA-335 II.23.2.
use Rattle.std.specs.Prelude.{ℕ, ◌+◌, ◌^◌, List, [], ◌∷◌, Option, Some, None, nat_lt, ◌==◌, if◌then◌else◌}
use Rattle.std.specs.Option.{option_or}
use Rattle.std.specs.Int.{bytes_high_first}

-- what stays of the bytes after those of `front`, where they begin with them
abbrev pub strip_bytes : List ℕ → List ℕ → Option (List ℕ)
strip_bytes [] s = Some s
strip_bytes (b ∷ front) [] = None
strip_bytes (b ∷ front) (x ∷ s) = if x == b then strip_bytes front s else None

-- a form: how many bytes it has, how many bits of them are the number's, and the mark above these bits
pub record Form : Type 0 where
  pub width : ℕ
  pub bits : ℕ
  pub mark : ℕ

-- 0bbbbbbb
abbrev pub one_byte_form : Form
one_byte_form = record { width = 1; bits = 7; mark = 0 }

-- 10bbbbbb x
abbrev pub two_bytes_form : Form
two_bytes_form = record { width = 2; bits = 14; mark = 0x8000 }

-- 110bbbbb x y z
abbrev pub four_bytes_form : Form
four_bytes_form = record { width = 4; bits = 29; mark = 0xC0000000 }

-- the number under the form's mark, the most significant byte first
abbrev pub written : Form → ℕ → List ℕ
written form n = bytes_high_first form.width (form.mark + n)

-- what stays after the number in that form, where the form holds it
abbrev pub strip_form : Form → ℕ → List ℕ → Option (List ℕ)
strip_form form n s = if nat_lt n (2 ^ form.bits) then strip_bytes (written form n) s else None

-- what stays after the number in any form that holds it
unfoldable pub strip_number : ℕ → List ℕ → Option (List ℕ)
strip_number n s =
    option_or (strip_form one_byte_form n s)
    (option_or (strip_form two_bytes_form n s) (strip_form four_bytes_form n s))

-- a number below 2^29 in the shortest form that holds it
unfoldable pub spelled_number : ℕ → List ℕ
spelled_number n =
    if nat_lt n (2 ^ 7) then written one_byte_form n
    else if nat_lt n (2 ^ 14) then written two_bytes_form n
    else written four_bytes_form n
