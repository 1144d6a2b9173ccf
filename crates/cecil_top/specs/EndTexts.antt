-- How the end of a resolution and the value of an attribute are printed, without a line feed. Numbers are told by their
-- element types (ECMA-335 II.23.1.16) and their bits, values by their arguments (II.23.3).
use Rattle.std.specs.Prelude.{ℕ, List, [], ◌∷◌, ◌++◌, codes, map, if◌then◌else◌}
use Rattle.std.specs.Fmt.{decimal}
use Rattle.std.specs.List.{flat_map, join_with_byte}
use Rattle.attr_blob.specs.Types.{is_numeric, number_width}
use Rattle.attr_blob.specs.declared.value.Arg.{Arg}
use Rattle.attr_blob.specs.declared.value.Arg.TheFolds.{fold-Arg}
use Rattle.attr_blob.specs.declared.value.Arg.TheOpen.{Arg-F, Num, Text, NullText, TypeName, NullType, Boxed, Enum}
use Rattle.attr_blob.specs.declared.value.Arg.TheOpen.{Array, NullArray}
use Rattle.attr_blob.specs.declared.value.AttrValue.{AttrValue}
use Rattle.attr_blob.specs.declared.value.NamedArg.{NamedArg}
use Rattle.cil_base.specs.Escape.{escaped}
use Rattle.dump_text.specs.Pieces.{hex_number, quoted}
use Rattle.dump_text.specs.ReplyText.{reply_text}
use Rattle.resolver.specs.declared.next.Next.{Next}
use Rattle.resolver.specs.declared.next.Next.TheVariants as ends
use Rattle.sig_tree.specs.Names.{prim_name}
use Rattle.sig_tree.specs.Printed.{own_text}

-- the name of an element type of numbers; `?` where it is none
unfoldable pub number_name : ℕ → List ℕ
number_name elem = if is_numeric elem then prim_name elem else codes "?"

-- the element type, and the bits in hex, two digits for each byte of its width
abbrev pub number_text : ℕ → ℕ → List ℕ
number_text elem bits = number_name elem ++ 0x3a ∷ hex_number (number_width elem) bits

-- an argument, where its parts are printed: the elements of an array have a comma between each two
abbrev pub argument_level : Arg-F (List ℕ) → List ℕ
argument_level (Num elem bits) = number_text elem bits
argument_level (Text text) = quoted text
argument_level NullText = codes "null"
argument_level (TypeName name) = codes "type " ++ quoted name
argument_level NullType = codes "null"
argument_level (Boxed ty value) = codes "box " ++ value
argument_level (Enum name elem bits) = codes "enum " ++ quoted name ++ 0x20 ∷ number_text elem bits
argument_level (Array elem items) = 0x5b ∷ join_with_byte 0x2c items ++ codes "]"
argument_level (NullArray elem) = codes "null"

abbrev pub argument_text : Arg → List ℕ
argument_text = fold-Arg (List ℕ) argument_level

-- a field or a property that is set by its name, which has no quotes
abbrev pub named_text : NamedArg → List ℕ
named_text named =
    (if named.property then codes " property " else codes " field ")
    ++ escaped named.name ++ 0x3d ∷ argument_text named.value

-- the constructor's arguments in brackets, and then those that are named
abbrev pub attribute_text : AttrValue → List ℕ
attribute_text value =
    0x28 ∷ join_with_byte 0x2c (map argument_text value.fixed) ++ 0x29 ∷ flat_map named_text value.named

-- a question is no end and has no text
unfoldable pub end_text : Next → List ℕ
end_text (ends.Question m query) = []
end_text (ends.Found m t) = codes "found m" ++ decimal m ++ 0x20 ∷ own_text t
end_text (ends.Attribute value) = attribute_text value
end_text ends.BadAttribute = codes "bad"
end_text (ends.Unresolved name) = codes "unresolved " ++ quoted name
end_text ends.TooDeep = codes "toodeep"
end_text (ends.Stopped reply) = codes "stopped " ++ reply_text reply
