-- The bytes of a value, each number in its shortest form: ECMA-335 II.23.3.
use Rattle.std.specs.Prelude.{ℕ, List, [], ◌∷◌, ◌++◌, map, length}
use Rattle.std.specs.List.{flat_map}
use Rattle.byteorder.specs.Endian.{little_bytes}
use Rattle.attr_blob.specs.Fronts.{spelled_text}
use Rattle.attr_blob.specs.Types.{number_width, spelled_type}
use Rattle.attr_blob.specs.Attrs.{named_mark}
use Rattle.attr_blob.specs.declared.value.Arg.{Arg}
use Rattle.attr_blob.specs.declared.value.Arg.TheOpen.{Arg-F, Num, Text, NullText, TypeName, NullType, Boxed, Enum}
use Rattle.attr_blob.specs.declared.value.Arg.TheOpen.{Array, NullArray}
use Rattle.attr_blob.specs.declared.value.Arg.TheFolds.{fold-Arg}
use Rattle.attr_blob.specs.declared.value.NamedArg.{NamedArg}
use Rattle.attr_blob.specs.declared.value.AttrValue.{AttrValue}

abbrev pub spelled_arg_level : Arg-F (List ℕ) → List ℕ
spelled_arg_level (Num elem bits) = little_bytes (number_width elem) bits
spelled_arg_level (Text text) = spelled_text text
spelled_arg_level NullText = 0xff ∷ []
spelled_arg_level (TypeName name) = spelled_text name
spelled_arg_level NullType = 0xff ∷ []
spelled_arg_level (Boxed ty value) = spelled_type ty ++ value
spelled_arg_level (Enum name elem bits) = little_bytes (number_width elem) bits
spelled_arg_level (Array elem items) = little_bytes 4 (length items) ++ flat_map (λ item. item) items
spelled_arg_level (NullArray elem) = little_bytes 4 0xffffffff

abbrev pub spelled_arg : Arg → List ℕ
spelled_arg = fold-Arg (List ℕ) spelled_arg_level

abbrev pub spelled_args : List Arg → List ℕ
spelled_args args = flat_map (λ item. item) (map spelled_arg args)

abbrev pub spelled_named : NamedArg → List ℕ
spelled_named named =
    named_mark named.property ∷ spelled_type named.ty ++ spelled_text named.name ++ spelled_arg named.value

abbrev pub spelled_all_named : List NamedArg → List ℕ
spelled_all_named all = flat_map (λ item. item) (map spelled_named all)

abbrev pub spelled_attr : AttrValue → List ℕ
spelled_attr value =
    1 ∷ 0 ∷ spelled_args value.fixed ++ little_bytes 2 (length value.named) ++ spelled_all_named value.named
