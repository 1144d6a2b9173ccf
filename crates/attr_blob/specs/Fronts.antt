-- What stays of bytes after a number, a text or a row of values at their front: ECMA-335 II.23.3.
use Rattle.std.specs.Prelude.{ℕ, ◌^◌, ◌==◌, ◌&&◌, List, [], ◌∷◌, ◌++◌, Option, Some, None, Bool, nat_lt, nat_le}
use Rattle.std.specs.Prelude.{length, drop, if◌then◌else◌}
use Rattle.cil_base.specs.Number.{strip_bytes, strip_number, spelled_number}
use Rattle.cil_base.specs.Place.{number_at}
use Rattle.cil_base.specs.Steps.{◌>>=◌}

-- after a number in so many bytes, the lowest byte first
abbrev pub strip_little : ℕ → ℕ → List ℕ → Option (List ℕ)
strip_little width n s = if nat_le width (length s) && (number_at s 0 width == n) then Some (drop width s) else None

-- after a text: how many bytes it has, in any form of that number, and the bytes
abbrev pub strip_text : List ℕ → List ℕ → Option (List ℕ)
strip_text text s = strip_number (length text) s >>= strip_bytes text

-- after the byte FF, which stands for no text
abbrev pub strip_null : List ℕ → Option (List ℕ)
strip_null s = strip_bytes (0xff ∷ []) s

-- after one value after the other
abbrev pub strip_row : List (List ℕ → Option (List ℕ)) → List ℕ → Option (List ℕ)
strip_row [] s = Some s
strip_row (strip ∷ more) s = strip s >>= strip_row more

-- a number of so many bytes
abbrev pub fits_in : ℕ → ℕ → Bool
fits_in width n = nat_lt n (256 ^ width)

-- a text that can be spelled
abbrev pub is_short_text : List ℕ → Bool
is_short_text text = nat_lt (length text) (2 ^ 29)

-- a text with its length in the shortest form
abbrev pub spelled_text : List ℕ → List ℕ
spelled_text text = if is_short_text text then spelled_number (length text) ++ text else []
