-- Bytes, bits and GUIDs as texts of hex digits in either case.
use Rattle.std.specs.Prelude.{ℕ, List, Option, option_map}
use Rattle.std.specs.Int.{from_be_bytes, w32, w64}
use Rattle.std.specs.Result.{result_ok}
use Rattle.hex.specs.Hex.{decode_of, decode_sized}
use Rattle.uuid.specs.Parts.{swap_fields}
use Rattle.uuid.specs.Text.{parsed_hyphenated}

-- the bytes of an even number of hex digits, two a byte
unfoldable pub hex_bytes : List ℕ → Option (List ℕ)
hex_bytes text = result_ok (decode_of text)

-- the number of eight hex digits, and of sixteen, most significant first
unfoldable pub eight_digits : List ℕ → Option ℕ
eight_digits text = option_map (from_be_bytes w32) (result_ok (decode_sized text 4))

unfoldable pub sixteen_digits : List ℕ → Option ℕ
sixteen_digits text = option_map (from_be_bytes w64) (result_ok (decode_sized text 8))

-- the bytes of a GUID as they are stored, of a text of 8-4-4-4-12 hex digits: the first three fields have their lowest
-- byte first (ECMA-335 II.24.2.5)
unfoldable pub guid_of : List ℕ → Option (List ℕ)
guid_of text = option_map swap_fields (parsed_hyphenated text)
