-- A GUID in text, of its sixteen bytes in the file: ECMA-335 II.24.2.5.
use Rattle.std.specs.Prelude.{ℕ, List, [], ◌∷◌, map, take, drop, reverse}
use Rattle.std.specs.List.{join_with_byte}
use Rattle.asm_names.specs.Assembly.{hex_text}

-- numbers of 4, 2 and 2 bytes, whose lowest byte comes first in the file and last in the text; then 2 and 6 bytes as
-- they stand
abbrev pub guid_groups : List ℕ → List (List ℕ)
guid_groups b =
    reverse (take 4 b) ∷ reverse (take 2 (drop 4 b)) ∷ reverse (take 2 (drop 6 b))
    ∷ take 2 (drop 8 b) ∷ take 6 (drop 10 b) ∷ []

-- 8-4-4-4-12 hex digits
unfoldable pub guid_text : List ℕ → List ℕ
guid_text b = join_with_byte 0x2d (map hex_text (guid_groups b))
