-- The full name of an assembly: ECMA-335 II.6.2.1.3.
use Rattle.std.specs.Prelude.{ℕ, List, [], ◌∷◌, ◌++◌, codes, map}
use Rattle.std.specs.List.{flat_map, join_with_byte}
use Rattle.std.specs.Fmt.{decimal}
use Rattle.cil_base.specs.Escape.{hex_pair}

-- two lower-case hex digits for each byte
abbrev pub hex_text : List ℕ → List ℕ
hex_text bytes = flat_map hex_pair bytes

-- the parts in decimal, with a point between two of them
abbrev pub assembly_version_text : List ℕ → List ℕ
assembly_version_text parts = join_with_byte 0x2e (map decimal parts)

abbrev pub culture_text : List ℕ → List ℕ
culture_text [] = codes "neutral"
culture_text (c ∷ cs) = c ∷ cs

abbrev pub key_token_text : List ℕ → List ℕ
key_token_text [] = codes "null"
key_token_text (b ∷ bs) = hex_text (b ∷ bs)

abbrev pub assembly_text : List ℕ → List ℕ → List ℕ → List ℕ → List ℕ
assembly_text name version culture token =
    name ++ codes ", Version=" ++ assembly_version_text version ++ codes ", Culture=" ++ culture_text culture
    ++ codes ", PublicKeyToken=" ++ key_token_text token
