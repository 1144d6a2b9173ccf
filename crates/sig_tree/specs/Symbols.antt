-- What a signature is spelled with: bytes, compressed numbers and type tokens (ECMA-335 II.23.2).
use Rattle.std.specs.Prelude.{ℕ, ◌+◌, ◌*◌, ◌^◌, ◌==◌, List, [], ◌∷◌, Option, Some, None, Bool, nat_lt, is_some}
use Rattle.std.specs.Prelude.{unwrap_or, option_map, option_and_then, if◌then◌else◌}
use Rattle.std.specs.List.{flat_map}
use Rattle.sig_tree.specs.declared.symbol.Symbol.{Symbol}
use Rattle.sig_tree.specs.declared.symbol.Symbol.TheVariants.{Byte, Number, Signed, TypeToken}
use Rattle.cil_base.specs.Token.{Token}
use Rattle.cil_base.specs.Number.{strip_bytes, strip_number, spelled_number}
use Rattle.cil_base.specs.Signed.{is_within, strip_signed, spelled_signed}

-- the tag of TypeDef, TypeRef and TypeSpec in a TypeDefOrRef coded index (II.24.2.6)
abbrev pub tag_of : ℕ → Option ℕ
tag_of table =
    if table == 0x02 then Some 0 else (if table == 0x01 then Some 1 else (if table == 0x1b then Some 2 else None))

-- the number of a type token: the row above two bits of tag (II.23.2.8)
abbrev pub coded_token : Token → Option ℕ
coded_token t = if nat_lt t.rid (2 ^ 24) then option_map (λ tag. t.rid * 4 + tag) (tag_of t.table) else None

-- the shortest bytes of a symbol; none where it cannot be spelled
abbrev pub spelling_of : Symbol → Option (List ℕ)
spelling_of (Byte b) = Some (b ∷ [])
spelling_of (Number n) = if nat_lt n (2 ^ 29) then Some (spelled_number n) else None
spelling_of (Signed z) = if is_within 29 z then Some (spelled_signed z) else None
spelling_of (TypeToken t) = option_map spelled_number (coded_token t)

abbrev pub can_be_spelled : Symbol → Bool
can_be_spelled x = is_some (spelling_of x)

-- the shortest bytes of symbols in order
abbrev pub spelled : List Symbol → List ℕ
spelled xs = flat_map (λ x. unwrap_or (spelling_of x) []) xs

-- what stays of the bytes after a symbol at their front, in any form of its number
abbrev pub strip_symbol : Symbol → List ℕ → Option (List ℕ)
strip_symbol (Byte b) s = strip_bytes (b ∷ []) s
strip_symbol (Number n) s = strip_number n s
strip_symbol (Signed z) s = strip_signed z s
strip_symbol (TypeToken t) s = option_and_then {T = ℕ} {U = List ℕ} (λ n. strip_number n s) (coded_token t)

-- what stays after symbols in order
abbrev pub strip_symbols : List Symbol → List ℕ → Option (List ℕ)
strip_symbols [] s = Some s
strip_symbols (x ∷ xs) s = option_and_then {T = List ℕ} {U = List ℕ} (strip_symbols xs) (strip_symbol x s)
