-- Arguments by the bytes.
use Rattle.std.specs.Prelude.{ℕ, zero, suc, ◌==◌, ◌&&◌, List, [], ◌∷◌, ◌++◌, Option, Some, None, Ok, Err, Bool, true}
use Rattle.std.specs.Prelude.{false, nat_le, length, take, drop, if◌then◌else◌}
use Rattle.cil_base.specs.Place.{number_at}
use Rattle.cil_base.specs.Steps.{◌>>=◌}
use Rattle.cil_base.specs.inner.Reading.{compressed_at}
use Rattle.attr_blob.specs.Fronts.{fits_in}
use Rattle.attr_blob.specs.Types.{is_numeric, number_width, arg_type_fits, enum_width}
use Rattle.attr_blob.specs.Attrs.{arg_depth_limit}
use Rattle.attr_blob.specs.inner.Steps.{Found, behind, onward, changed}
use Rattle.attr_blob.specs.declared.stop.Stop.TheVariants.{Lacks, Fails}
use Rattle.attr_blob.specs.declared.value.EnumWidth.{EnumWidth}
use Rattle.attr_blob.specs.declared.value.ArgType.{ArgType}
use Rattle.attr_blob.specs.declared.value.ArgType.TheVariants as types
use Rattle.attr_blob.specs.declared.value.ArgType.TheOpen.{ArgType-F, Prim, Text, SystemType, Boxed, Enum, Array}
use Rattle.attr_blob.specs.declared.value.ArgType.TheViews.{out-ArgType}
use Rattle.attr_blob.specs.declared.value.Arg.{Arg}
use Rattle.attr_blob.specs.declared.value.Arg.TheVariants as args
use Rattle.attr_blob.specs.declared.value.NamedArg.{NamedArg}
use Rattle.attr_blob.specs.declared.value.AttrValue.{AttrValue}

abbrev pub little_at : ℕ → List ℕ → Option (ℕ × List ℕ)
little_at width s =
    if nat_le width (length s) && fits_in width (number_at s 0 width)
    then Some (number_at s 0 width, drop width s) else None

-- so many bytes
abbrev pub taken_at : ℕ → List ℕ → Option (List ℕ × List ℕ)
taken_at len s = if nat_le len (length s) then Some (take len s, drop len s) else None

abbrev pub text_at : List ℕ → Option (List ℕ × List ℕ)
text_at s = compressed_at s >>= λ x. taken_at x.0 x.1

-- a type that is no array
abbrev pub simple_at : ℕ → List ℕ → Option (ArgType × List ℕ)
simple_at b s =
    if is_numeric b then Some (types.Prim b, s)
    else if b == 0x0e then Some (types.Text, s)
    else if b == 0x50 then Some (types.SystemType, s)
    else if b == 0x51 then Some (types.Boxed, s)
    else if b == 0x55 then changed types.Enum (text_at s)
    else None

abbrev pub element_at : List ℕ → Option (ArgType × List ℕ)
element_at [] = None
element_at (b ∷ s) = simple_at b s

unfoldable pub arg_type_at : List ℕ → Option (ArgType × List ℕ)
arg_type_at [] = None
arg_type_at (b ∷ s) = if b == 0x1d then changed types.Array (element_at s) else simple_at b s

-- a number of the element type
abbrev pub number_arg : (ℕ → Arg) → ℕ → List ℕ → Found Arg
number_arg make elem s = behind (little_at (number_width elem) s) (λ bits rest. Ok (make bits, rest))

-- a text, or the byte that stands for none
abbrev pub nullable_at : List ℕ → Option (Option (List ℕ) × List ℕ)
nullable_at [] = None
nullable_at (b ∷ s) = if b == 0xff then Some (None, s) else changed (λ text. Some text) (text_at (b ∷ s))

abbrev pub text_or : (List ℕ → Arg) → Arg → Option (List ℕ) → Arg
text_or make null None = null
text_or make null (Some text) = make text

abbrev pub text_arg : (List ℕ → Arg) → Arg → List ℕ → Found Arg
text_arg make null s = behind (nullable_at s) (λ text rest. Ok (text_or make null text, rest))

abbrev pub enum_of : List ℕ → Option ℕ → List ℕ → Found Arg
enum_of name None s = Err (Lacks name)
enum_of name (Some elem) s = if is_numeric elem then number_arg (args.Enum name elem) elem s else Err Fails

abbrev pub boxed_arg : (ArgType → List ℕ → Found Arg) → List ℕ → Found Arg
boxed_arg item s =
    behind (arg_type_at s) (λ ty rest. onward (item ty rest) (λ arg after. Ok (args.Boxed ty arg, after)))

-- so many items
abbrev pub many_items_at : {A : Type 0} → (List ℕ → Found A) → ℕ → List ℕ → Found (List A)
many_items_at item zero s = Ok ([], s)
many_items_at item (suc count) s =
    onward (item s) (λ x rest. onward (many_items_at item count rest) (λ xs after. Ok (x ∷ xs, after)))

-- items with others before them
abbrev pub with_before : {A : Type 0} → List A → Found (List A) → Found (List A)
with_before {A} before found = onward {A = List A} {B = List A} found (λ xs after. Ok (before ++ xs, after))

abbrev pub items_arg : ArgType → (List ℕ → Found Arg) → ℕ → List ℕ → Found Arg
items_arg elem item count s =
    if count == 0xffffffff then Ok (args.NullArray elem, s)
    else onward (many_items_at item count s) (λ items after. Ok (args.Array elem items, after))

abbrev pub array_arg : ArgType → (List ℕ → Found Arg) → List ℕ → Found Arg
array_arg elem item s = behind (little_at 4 s) (λ count rest. items_arg elem item count rest)

unfoldable pub arg_level_at : List EnumWidth → (ArgType → List ℕ → Found Arg) → ArgType-F ArgType → List ℕ → Found Arg
arg_level_at widths item (Prim elem) s = number_arg (args.Num elem) elem s
arg_level_at widths item Text s = text_arg args.Text args.NullText s
arg_level_at widths item SystemType s = text_arg args.TypeName args.NullType s
arg_level_at widths item Boxed s = boxed_arg item s
arg_level_at widths item (Enum name) s = enum_of name (enum_width widths name) s
arg_level_at widths item (Array elem) s = array_arg elem (item elem) s

-- an argument of at most that depth
unfoldable pub arg_at : List EnumWidth → ℕ → ArgType → List ℕ → Found Arg
arg_at widths zero ty s = Err Fails
arg_at widths (suc depth) ty s =
    if arg_type_fits ty then arg_level_at widths (arg_at widths depth) (out-ArgType ty) s else Err Fails

-- whether the byte is PROPERTY, or FIELD
abbrev pub mark_at : List ℕ → Option (Bool × List ℕ)
mark_at [] = None
mark_at (b ∷ s) = if b == 0x53 then Some (false, s) else if b == 0x54 then Some (true, s) else None

-- the name, where there is no width
abbrev pub without_width : List ℕ → Option ℕ → Option (List ℕ)
without_width name None = Some name
without_width name (Some elem) = None

abbrev pub lacking_level : List EnumWidth → ArgType-F ArgType → Option (List ℕ)
lacking_level widths (Enum name) = without_width name (enum_width widths name)
lacking_level widths (Prim elem) = None
lacking_level widths Text = None
lacking_level widths SystemType = None
lacking_level widths Boxed = None
lacking_level widths (Array elem) = None

-- the name of an enum type without a width
unfoldable pub lacking : List EnumWidth → ArgType → Option (List ℕ)
lacking widths ty = lacking_level widths (out-ArgType ty)

abbrev pub named_value : List EnumWidth → Bool → ArgType → List ℕ → Found NamedArg
named_value widths property ty s =
    behind (text_at s) (λ name rest. onward (arg_at widths arg_depth_limit ty rest) (λ value after.
    Ok (record { property = property; ty = ty; name = name; value = value }, after)))

abbrev pub named_typed : List EnumWidth → Bool → ArgType → Option (List ℕ) → List ℕ → Found NamedArg
named_typed widths property ty (Some name) s = Err (Lacks name)
named_typed widths property ty None s = named_value widths property ty s

unfoldable pub named_at : List EnumWidth → List ℕ → Found NamedArg
named_at widths s =
    behind (mark_at s) (λ property rest.
    behind (arg_type_at rest) (λ ty after. named_typed widths property ty (lacking widths ty) after))

-- the fixed arguments
abbrev pub fixed_at : List EnumWidth → List ArgType → List ℕ → Found (List Arg)
fixed_at widths [] s = Ok ([], s)
fixed_at widths (ty ∷ types) s =
    onward (arg_at widths arg_depth_limit ty s) (λ arg rest.
    onward (fixed_at widths types rest) (λ args after. Ok (arg ∷ args, after)))

abbrev pub after_fixed : List EnumWidth → List Arg → List ℕ → Found AttrValue
after_fixed widths fixed s =
    behind (little_at 2 s) (λ count rest. onward (many_items_at (named_at widths) count rest) (λ named after.
    Ok (record { fixed = fixed; named = named }, after)))

unfoldable pub value_at : List ArgType → List EnumWidth → List ℕ → Found AttrValue
value_at params widths s =
    behind (little_at 2 s) (λ prolog rest.
    if prolog == 1 then onward (fixed_at widths params rest) (after_fixed widths) else Err Fails)
