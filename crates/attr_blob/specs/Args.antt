-- Arguments of attributes, by the value: what a value is spelled with, and which type it has (ECMA-335 II.23.3).
use Rattle.std.specs.Prelude.{◌≡◌, ℕ, zero, suc, ◌-◌, ◌^◌, ◌<◌, List, [], ◌∷◌, Option, Some, true, length}
use Rattle.cil_base.specs.Steps.{◌>>=◌}
use Rattle.attr_blob.specs.Fronts.{strip_little, strip_text, strip_null, strip_row, is_short_text, fits_in}
use Rattle.attr_blob.specs.Types.{is_numeric, number_width, arg_type_fits, strip_type, enum_width}
use Rattle.attr_blob.specs.declared.value.EnumWidth.{EnumWidth}
use Rattle.attr_blob.specs.declared.value.ArgType.{ArgType}
use Rattle.attr_blob.specs.declared.value.ArgType.TheVariants as types
use Rattle.attr_blob.specs.declared.value.Arg.{Arg}
use Rattle.attr_blob.specs.declared.value.Arg.TheOpen.{Arg-F, Num, Text, NullText, TypeName, NullType, Boxed, Enum}
use Rattle.attr_blob.specs.declared.value.Arg.TheOpen.{Array, NullArray}
use Rattle.attr_blob.specs.declared.value.Arg.TheViews.{out-Arg}
use Rattle.attr_blob.specs.declared.value.Arg.TheFolds.{fold-Arg}

-- after an argument, where its parts say what stays after them: a count of FFFFFFFF stands for no array
abbrev pub strip_arg_level : Arg-F (List ℕ → Option (List ℕ)) → List ℕ → Option (List ℕ)
strip_arg_level (Num elem bits) s = strip_little (number_width elem) bits s
strip_arg_level (Text text) s = strip_text text s
strip_arg_level NullText s = strip_null s
strip_arg_level (TypeName name) s = strip_text name s
strip_arg_level NullType s = strip_null s
strip_arg_level (Boxed ty value) s = strip_type ty s >>= value
strip_arg_level (Enum name elem bits) s = strip_little (number_width elem) bits s
strip_arg_level (Array elem items) s = strip_little 4 (length items) s >>= strip_row items
strip_arg_level (NullArray elem) s = strip_little 4 0xffffffff s

-- what stays of bytes after an argument at their front
abbrev pub strip_arg : Arg → List ℕ → Option (List ℕ)
strip_arg = fold-Arg (List ℕ → Option (List ℕ)) strip_arg_level

-- each item of a list
abbrev pub EachItem : {A : Type 0} → (A → Type 0) → List A → Type 0
EachItem P [] = Unit {0}
EachItem P (x ∷ xs) = P x × EachItem P xs

-- an argument is of the type and keeps its bounds, where its parts are told to be of theirs
abbrev pub has_type_level : List EnumWidth → (ArgType → Arg → Type 0) → ArgType → Arg-F Arg → Type 0
has_type_level widths part ty (Num elem bits) = (ty ≡ types.Prim elem) × (fits_in (number_width elem) bits ≡ true)
has_type_level widths part ty (Text text) = (ty ≡ types.Text) × (is_short_text text ≡ true)
has_type_level widths part ty NullText = ty ≡ types.Text
has_type_level widths part ty (TypeName name) = (ty ≡ types.SystemType) × (is_short_text name ≡ true)
has_type_level widths part ty NullType = ty ≡ types.SystemType
has_type_level widths part ty (Boxed inner value) = (ty ≡ types.Boxed) × part inner value
has_type_level widths part ty (Enum name elem bits) =
    (ty ≡ types.Enum name) × (enum_width widths name ≡ Some elem)
    × (is_numeric elem ≡ true) × (fits_in (number_width elem) bits ≡ true)
has_type_level widths part ty (Array elem items) =
    (ty ≡ types.Array elem) × (length items < 2 ^ 32 - 1) × EachItem (part elem) items
has_type_level widths part ty (NullArray elem) = ty ≡ types.Array elem

-- an argument of at most that depth is of the type and keeps its bounds: one without parts has depth 1
unfoldable pub HasType : List EnumWidth → ℕ → ArgType → Arg → Type 0
HasType widths zero ty arg = ⊥
HasType widths (suc depth) ty arg =
    (arg_type_fits ty ≡ true) × has_type_level widths (HasType widths depth) ty (out-Arg arg)

-- an argument of the type stands at the front of the bytes, and `rest` stays
pub record StandsArg (widths : List EnumWidth) (depth : ℕ) (ty : ArgType) (arg : Arg) (bytes rest : List ℕ)
    : Type 0 where
  pub strips : strip_arg arg bytes ≡ Some rest
  pub typed : HasType widths depth ty arg
