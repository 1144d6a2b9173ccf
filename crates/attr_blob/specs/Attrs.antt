-- Values of attributes, by the value: ECMA-335 II.23.3.
use Rattle.std.specs.Prelude.{◌≡◌, ℕ, ◌<◌, ◌^◌, List, [], ◌∷◌, Option, Some, Bool, true, length, map, if◌then◌else◌}
use Rattle.cil_base.specs.Number.{strip_bytes}
use Rattle.cil_base.specs.Steps.{◌>>=◌}
use Rattle.attr_blob.specs.Fronts.{strip_little, strip_text, strip_row, is_short_text}
use Rattle.attr_blob.specs.Types.{strip_type}
use Rattle.attr_blob.specs.Args.{strip_arg, HasType, EachItem}
use Rattle.attr_blob.specs.declared.value.EnumWidth.{EnumWidth}
use Rattle.attr_blob.specs.declared.value.ArgType.{ArgType}
use Rattle.attr_blob.specs.declared.value.Arg.{Arg}
use Rattle.attr_blob.specs.declared.value.NamedArg.{NamedArg}
use Rattle.attr_blob.specs.declared.value.AttrValue.{AttrValue}

-- the greatest depth of an argument
abbrev pub arg_depth_limit : ℕ
arg_depth_limit = 64

-- FIELD 53 or PROPERTY 54
abbrev pub named_mark : Bool → ℕ
named_mark property = if property then 0x54 else 0x53

-- after a named argument: its mark, its type, its name and its value
abbrev pub strip_named : NamedArg → List ℕ → Option (List ℕ)
strip_named named s =
    strip_bytes (named_mark named.property ∷ []) s >>= strip_type named.ty >>= strip_text named.name
    >>= strip_arg named.value

-- after a value: the prolog 1, the fixed arguments, how many are named, and these
abbrev pub strip_attr : AttrValue → List ℕ → Option (List ℕ)
strip_attr value s =
    strip_little 2 1 s >>= strip_row (map strip_arg value.fixed) >>= strip_little 2 (length value.named)
    >>= strip_row (map strip_named value.named)

pub record HasNamedType (widths : List EnumWidth) (named : NamedArg) : Type 0 where
  pub name : is_short_text named.name ≡ true
  pub value : HasType widths arg_depth_limit named.ty named.value

-- the arguments are of these types, one for one
abbrev pub HasTypes : List EnumWidth → List ArgType → List Arg → Type 0
HasTypes widths [] [] = Unit {0}
HasTypes widths [] (arg ∷ args) = ⊥
HasTypes widths (ty ∷ types) [] = ⊥
HasTypes widths (ty ∷ types) (arg ∷ args) = HasType widths arg_depth_limit ty arg × HasTypes widths types args

-- a value with these parameter types and widths, within the bounds
pub record HasAttrType (params : List ArgType) (widths : List EnumWidth) (value : AttrValue) : Type 0 where
  pub fixed : HasTypes widths params value.fixed
  pub count : length value.named < 2 ^ 16
  pub named : EachItem (HasNamedType widths) value.named

-- the value with these parameter types and widths spells the whole blob
pub record ReadsAttr (params : List ArgType) (widths : List EnumWidth) (value : AttrValue) (blob : List ℕ)
    : Type 0 where
  pub whole : strip_attr value blob ≡ Some []
  pub typed : HasAttrType params widths value
