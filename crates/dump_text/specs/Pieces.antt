-- Parts of the printed lines: texts in quotes, numbers in hex, and `?` for what has no name.
use Rattle.std.specs.Prelude.{ℕ, Bool, List, [], ◌∷◌, ◌++◌, Option, codes, if◌then◌else◌}
use Rattle.std.specs.Int.{bytes_high_first}
use Rattle.std.specs.Option.{unwrap_or}
use Rattle.asm_names.specs.Assembly.{hex_text}
use Rattle.cil_base.specs.Escape.{escaped}

abbrev pub quoted : List ℕ → List ℕ
quoted text = 0x22 ∷ escaped text ++ 0x22 ∷ []

-- two digits for each byte of the number's width, the highest byte first
unfoldable pub hex_number : ℕ → ℕ → List ℕ
hex_number width n = hex_text (bytes_high_first width n)

abbrev pub name_or_mark : Option (List ℕ) → List ℕ
name_or_mark name = unwrap_or name (codes "?")

abbrev pub flag_text : Bool → List ℕ
flag_text flag = if flag then codes "1" else codes "0"
