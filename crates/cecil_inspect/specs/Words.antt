-- The words of a command line: `dump FILE` and `show FILE TOKEN`.
use Rattle.std.specs.Prelude.{ℕ, ◌+◌, ◌-◌, ◌*◌, Bool, List, [], ◌∷◌, Option, Some, None, codes, ◌==◌, ◌&&◌, ◌||◌, not}
use Rattle.std.specs.Prelude.{nat_le, if◌then◌else◌}
use Rattle.std.specs.List.{list_any}
use Rattle.std.specs.Option.{option_map}
use Rattle.std.specs.Str.{bytes_eq}
use Rattle.cil_base.specs.Steps.{◌>>=◌}
use Rattle.cil_base.specs.Token.{Token}
use Rattle.cecil_inspect.specs.declared.words.Request.{Request}
use Rattle.cecil_inspect.specs.declared.words.Request.TheVariants.{Dump, Show}

-- a name is not empty, not `.` or `..`, and has no `/` and no zero byte
abbrev pub is_name : List ℕ → Bool
is_name name =
    not (bytes_eq name []) && not (bytes_eq name (codes ".")) && not (bytes_eq name (codes ".."))
    && not (list_any (λ c. (c == 0x2f) || (c == 0)) name)

-- the value of a hex digit, in either case
abbrev pub hex_value : ℕ → Option ℕ
hex_value c =
    if nat_le 0x30 c && nat_le c 0x39 then Some (c - 0x30)
    else (if nat_le 0x61 c && nat_le c 0x66 then Some (c - 0x57)
    else (if nat_le 0x41 c && nat_le c 0x46 then Some (c - 0x37) else None))

-- the value of two hex digits
unfoldable pub pair_value : ℕ → ℕ → Option ℕ
pair_value a b = hex_value a >>= λ high. hex_value b >>= λ low. Some (16 * high + low)

-- the token of eight hex digits: two for the table and six for the row
unfoldable pub token_in : List ℕ → Option Token
token_in (a ∷ b ∷ c ∷ d ∷ e ∷ f ∷ g ∷ h ∷ []) =
    pair_value a b >>= λ table. pair_value c d >>= λ high. pair_value e f >>= λ middle. pair_value g h >>= λ low.
    Some (record { table = table; rid = high * 65536 + middle * 256 + low })
token_in _ = None

-- the name of the file that the words give, and what they ask of it; none where they are not in the grammar
abbrev pub asked : List (List ℕ) → Option (List ℕ × Request)
asked (command ∷ name ∷ []) = if bytes_eq command (codes "dump") && is_name name then Some (name, Dump) else None
asked (command ∷ name ∷ token ∷ []) =
    if bytes_eq command (codes "show") && is_name name then option_map (λ t. (name, Show t)) (token_in token) else None
asked _ = None
