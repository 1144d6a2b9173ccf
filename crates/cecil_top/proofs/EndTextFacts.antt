-- Worked values: ends of resolutions and values of attributes, as they are printed.
use Rattle.std.proofs.Common.{◌≡◌, ℕ, List, [], ◌∷◌, ◌++◌, codes, true, refl, ap, sym, ◌∙◌}
use Rattle.std.specs.Fmt.{digits}
use Rattle.std.specs.List.{join_with_byte}
use Rattle.attr_blob.specs.declared.value.Arg.{Arg}
use Rattle.attr_blob.specs.declared.value.Arg.TheFolds.{map-Arg, fold-roll-Arg}
use Rattle.attr_blob.specs.declared.value.Arg.TheOpen.{Arg-F, Num, Text, NullText, Boxed, Enum, Array}
use Rattle.attr_blob.specs.declared.value.Arg.TheVariants as args
use Rattle.attr_blob.specs.declared.value.Arg.TheViews.{roll-Arg, rolls-Num, rolls-Text, rolls-NullText, rolls-Boxed, rolls-Enum, rolls-Array}
use Rattle.attr_blob.specs.declared.value.ArgType.TheVariants as types
use Rattle.attr_blob.specs.declared.value.NamedArg.{NamedArg}
use Rattle.dump_text.specs.Pieces.{hex_number}
use Rattle.dump_text.specs.ReplyText.{reply_text}
use Rattle.node_model.specs.declared.reply.Reply.TheVariants as replies
use Rattle.resolver.specs.declared.next.Next.{Next}
use Rattle.resolver.specs.declared.next.Next.TheVariants as ends
use Rattle.cecil_top.specs.EndTexts.{argument_level, argument_text, end_text, number_name, number_text}

abbrev attribute : List Arg → List NamedArg → Next
attribute fixed named = ends.Attribute (record { fixed = fixed; named = named })

pub found_row : end_text (ends.Found 1 (record { table = 0x02; rid = 1 })) ≡ codes "found m1 02000001"
unfolding end_text digits
found_row = refl

pub unresolved_enum : end_text (ends.Unresolved (codes "N.E,lib")) ≡ codes "unresolved \"N.E,lib\""
unfolding end_text
unresolved_enum = refl

pub unresolved_nothing : end_text (ends.Unresolved []) ≡ codes "unresolved \"\""
unfolding end_text
unresolved_nothing = refl

pub bad_attribute : end_text ends.BadAttribute ≡ codes "bad"
unfolding end_text
bad_attribute = refl

pub too_deep : end_text ends.TooDeep ≡ codes "toodeep"
unfolding end_text
too_deep = refl

pub stopped_by_kind : end_text (ends.Stopped (replies.WrongKind (record { table = 0x70; rid = 1 }))) ≡ codes "stopped wrongkind 70000001"
unfolding end_text reply_text digits
stopped_by_kind = refl

pub no_arguments : end_text (attribute [] []) ≡ codes "()"
unfolding end_text
no_arguments = refl

said : (x : Arg-F Arg) (a : Arg) → roll-Arg x ≡ a → argument_text a ≡ argument_level (map-Arg Arg (List ℕ) argument_text x)
said x a is = ap argument_text (sym is) ∙ fold-roll-Arg (List ℕ) argument_level x

number : (elem bits : ℕ) → argument_text (args.Num elem bits) ≡ number_text elem bits
number elem bits = said (Num elem bits) (args.Num elem bits) (rolls-Num elem bits)

pub bool_true : argument_text (args.Num 0x02 1) ≡ codes "bool:01"
unfolding number_name hex_number
bool_true = number 0x02 1

pub r8_one : argument_text (args.Num 0x0d 0x3ff0000000000000) ≡ codes "r8:3ff0000000000000"
unfolding number_name hex_number
r8_one = number 0x0d 0x3ff0000000000000

pub boxed_one : argument_text (args.Boxed (types.Prim 0x08) (args.Num 0x08 1)) ≡ codes "box i4:00000001"
unfolding number_name hex_number
boxed_one =
    said (Boxed (types.Prim 0x08) (args.Num 0x08 1)) (args.Boxed (types.Prim 0x08) (args.Num 0x08 1)) (rolls-Boxed (types.Prim 0x08) (args.Num 0x08 1))
    ∙ ap (λ (s : List ℕ). codes "box " ++ s) (number 0x08 1)

pub enum_of_u1 : argument_text (args.Enum (codes "Lib.Colour") 0x05 8) ≡ codes "enum \"Lib.Colour\" u1:08"
unfolding number_name hex_number
enum_of_u1 = said (Enum (codes "Lib.Colour") 0x05 8) (args.Enum (codes "Lib.Colour") 0x05 8) (rolls-Enum (codes "Lib.Colour") 0x05 8)

pub property_set :
    end_text (attribute [] (record { property = true; ty = types.Prim 0x02; name = codes "WrapNonExceptionThrows"; value = args.Num 0x02 1 } ∷ []))
    ≡ codes "() property WrapNonExceptionThrows=bool:01"
unfolding end_text
property_set = ap (λ (s : List ℕ). codes "() property WrapNonExceptionThrows=" ++ s ++ []) bool_true

pub quoted_text : argument_text (args.Text (codes "a")) ≡ codes "\"a\""
quoted_text = said (Text (codes "a")) (args.Text (codes "a")) (rolls-Text (codes "a"))

pub no_text : argument_text args.NullText ≡ codes "null"
no_text = said NullText args.NullText rolls-NullText

texts : argument_text (args.Array types.Text (args.Text (codes "a") ∷ args.NullText ∷ [])) ≡ codes "[\"a\",null]"
texts =
    said (Array types.Text (args.Text (codes "a") ∷ args.NullText ∷ [])) (args.Array types.Text (args.Text (codes "a") ∷ args.NullText ∷ []))
    (rolls-Array types.Text (args.Text (codes "a") ∷ args.NullText ∷ []))
    ∙ ap (λ (s : List ℕ). 0x5b ∷ join_with_byte 0x2c (s ∷ argument_text args.NullText ∷ []) ++ codes "]") quoted_text
    ∙ ap (λ (s : List ℕ). 0x5b ∷ join_with_byte 0x2c (codes "\"a\"" ∷ s ∷ []) ++ codes "]") no_text

pub array_of_texts :
    end_text (attribute (args.Array types.Text (args.Text (codes "a") ∷ args.NullText ∷ []) ∷ []) []) ≡ codes "([\"a\",null])"
unfolding end_text
array_of_texts = ap (λ (s : List ℕ). 0x28 ∷ s ++ codes ")") texts
