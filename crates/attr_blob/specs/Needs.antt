-- Blobs that cannot be read on before the width of an enum is known: the bytes spell the arguments before it.
use Rattle.std.specs.Prelude.{◌≡◌, ℕ, zero, suc, ◌⊎◌, ◌-◌, ◌^◌, ◌<◌, List, [], ◌∷◌, Some, None, Bool, true, map}
use Rattle.cil_base.specs.Number.{strip_bytes}
use Rattle.attr_blob.specs.Fronts.{strip_little, strip_text, strip_row}
use Rattle.attr_blob.specs.Types.{arg_type_fits, strip_type, enum_width}
use Rattle.attr_blob.specs.Args.{strip_arg, StandsArg}
use Rattle.attr_blob.specs.Attrs.{arg_depth_limit, named_mark, strip_named, HasTypes, HasNamedType}
use Rattle.attr_blob.specs.declared.value.EnumWidth.{EnumWidth}
use Rattle.attr_blob.specs.declared.value.ArgType.{ArgType}
use Rattle.attr_blob.specs.declared.value.ArgType.TheOpen.{ArgType-F, Prim, Text, SystemType, Boxed, Enum, Array}
use Rattle.attr_blob.specs.declared.value.ArgType.TheViews.{out-ArgType}
use Rattle.attr_blob.specs.declared.value.Arg.{Arg}
use Rattle.attr_blob.specs.declared.value.NamedArg.{NamedArg}

-- of so many items some stand, and the next one needs a width
abbrev pub LaterNeeds : {A : Type 0} → (A → List ℕ → List ℕ → Type 0) → (List ℕ → Type 0) → ℕ → List ℕ → Type 0
LaterNeeds stands needs zero s = ⊥
LaterNeeds {A} stands needs (suc count) s =
    needs s ⊎ ((x : A) × (rest : List ℕ) × stands x s rest × LaterNeeds stands needs count rest)

-- the next type of a boxed value, or of an array that has an element
abbrev pub needs_level : List EnumWidth → ℕ → (ArgType → List ℕ → Type 0) → ArgType-F ArgType → List ℕ → List ℕ → Type 0
needs_level widths depth needs (Enum enum) name s = (enum_width widths enum ≡ None) × (enum ≡ name)
needs_level widths depth needs Boxed name s =
    (ty : ArgType) × (rest : List ℕ) × (strip_type ty s ≡ Some rest) × (arg_type_fits ty ≡ true) × needs ty rest
needs_level widths depth needs (Array elem) name s =
    (count : ℕ) × (rest : List ℕ) × (strip_little 4 count s ≡ Some rest) × (count < 2 ^ 32 - 1)
    × LaterNeeds (StandsArg widths depth elem) (needs elem) count rest
needs_level widths depth needs (Prim elem) name s = ⊥
needs_level widths depth needs Text name s = ⊥
needs_level widths depth needs SystemType name s = ⊥

-- an argument of the type needs the width of the enum of that name
unfoldable pub NeedsWidth : List EnumWidth → ℕ → List ℕ → ArgType → List ℕ → Type 0
NeedsWidth widths zero name ty s = ⊥
NeedsWidth widths (suc depth) name ty s =
    (arg_type_fits ty ≡ true) × needs_level widths depth (NeedsWidth widths depth name) (out-ArgType ty) name s

-- one of the fixed arguments does
abbrev pub FixedNeeds : List EnumWidth → List ℕ → List ArgType → List ℕ → Type 0
FixedNeeds widths name [] s = ⊥
FixedNeeds widths name (ty ∷ types) s =
    NeedsWidth widths arg_depth_limit name ty s
    ⊎ ((arg : Arg) × (rest : List ℕ)
    × StandsArg widths arg_depth_limit ty arg s rest × FixedNeeds widths name types rest)

-- a named argument stands at the front of the bytes, and `rest` stays
pub record StandsNamed (widths : List EnumWidth) (named : NamedArg) (bytes rest : List ℕ) : Type 0 where
  pub strips : strip_named named bytes ≡ Some rest
  pub typed : HasNamedType widths named

abbrev pub lacks_level : List EnumWidth → List ℕ → ArgType-F ArgType → Type 0
lacks_level widths name (Enum enum) = (enum_width widths enum ≡ None) × (enum ≡ name)
lacks_level widths name (Prim elem) = ⊥
lacks_level widths name Text = ⊥
lacks_level widths name SystemType = ⊥
lacks_level widths name Boxed = ⊥
lacks_level widths name (Array elem) = ⊥

-- a named argument does as soon as its type is read, or in its value
pub record NamedNeeds (widths : List EnumWidth) (name : List ℕ) (s : List ℕ) : Type 0 where
  pub property : Bool
  pub ty : ArgType
  pub at_type : List ℕ
  pub at_name : List ℕ
  pub mark : strip_bytes (named_mark property ∷ []) s ≡ Some at_type
  pub type : strip_type ty at_type ≡ Some at_name
  pub fits : arg_type_fits ty ≡ true
  pub needs :
      lacks_level widths name (out-ArgType ty)
      ⊎ ((own : List ℕ) × (rest : List ℕ)
      × (strip_text own at_name ≡ Some rest) × NeedsWidth widths arg_depth_limit name ty rest)

abbrev pub LaterNamedNeeds : List EnumWidth → List ArgType → List ℕ → List ℕ → Type 0
LaterNamedNeeds widths params name s =
    (fixed : List Arg) × (at_count : List ℕ) × (count : ℕ) × (rest : List ℕ)
    × (strip_row (map strip_arg fixed) s ≡ Some at_count) × HasTypes widths params fixed
    × (strip_little 2 count at_count ≡ Some rest) × (count < 2 ^ 16)
    × LaterNeeds (StandsNamed widths) (NamedNeeds widths name) count rest

-- the blob cannot be read on before the width of the enum of that name is known
pub record AttrNeeds (params : List ArgType) (widths : List EnumWidth) (name : List ℕ) (blob : List ℕ) : Type 0 where
  pub rest : List ℕ
  pub prolog : strip_little 2 1 blob ≡ Some rest
  pub needs : FixedNeeds widths name params rest ⊎ LaterNamedNeeds widths params name rest
