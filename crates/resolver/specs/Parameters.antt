-- The parameters of an attribute's constructor, and the types of its arguments by them: ECMA-335 II.23.2.10, II.23.3.
use Rattle.std.specs.Prelude.{ℕ, ◌==◌, ◌&&◌, Bool, true, false, List, [], ◌∷◌, codes, find, Option, Some, None}
use Rattle.std.specs.Prelude.{if◌then◌else◌}
use Rattle.std.specs.List.{filter_map, zip}
use Rattle.std.specs.Option.{option_map}
use Rattle.std.specs.Str.{bytes_eq}
use Rattle.cil_base.specs.Steps.{◌>>=◌}
use Rattle.cil_base.specs.Token.{Token}
use Rattle.attr_blob.specs.Types.{is_numeric}
use Rattle.attr_blob.specs.declared.value.ArgType.{ArgType}
use Rattle.attr_blob.specs.declared.value.ArgType.TheVariants as args
use Rattle.sig_tree.specs.declared.tree.TypeSig.{TypeSig}
use Rattle.sig_tree.specs.declared.tree.TypeSig.TheOpen.{TypeSig-F, Prim, Value, Class, SzArray}
use Rattle.sig_tree.specs.declared.tree.TypeSig.TheViews.{out-TypeSig}
use Rattle.sig_tree.specs.declared.tree.MethodSig.{MethodSig}
use Rattle.resolver.specs.declared.parameters.Asked.{Asked}
use Rattle.resolver.specs.declared.parameters.Parameter.{Parameter}
use Rattle.resolver.specs.declared.parameters.ParameterKind.{ParameterKind}
use Rattle.resolver.specs.declared.parameters.ParameterKind.TheVariants as kinds

-- a type of one byte: STRING 0E, OBJECT 1C, or a number
abbrev pub prim_kind : ℕ → ParameterKind
prim_kind code =
    if is_numeric code then kinds.Number code
    else if code == 0x0e then kinds.Text
    else if code == 0x1c then kinds.Boxed
    else kinds.Other

abbrev pub kind_level : TypeSig-F TypeSig MethodSig → ParameterKind
kind_level (Prim code) = prim_kind code
kind_level (Class t) = kinds.Class t
kind_level (Value t) = kinds.Value t
kind_level _ = kinds.Other

abbrev pub parameter_level : TypeSig-F TypeSig MethodSig → Parameter
parameter_level (SzArray elem) = record { array = true; kind = kind_level (out-TypeSig elem) }
parameter_level ty = record { array = false; kind = kind_level ty }

-- a parameter, or an array of one kind
abbrev pub parameter_of : TypeSig → Parameter
parameter_of ty = parameter_level (out-TypeSig ty)

abbrev pub kind_asked : ParameterKind → Option Asked
kind_asked (kinds.Class t) = Some (record { token = t; value = false })
kind_asked (kinds.Value t) = Some (record { token = t; value = true })
kind_asked _ = None

-- the classes and value types among the parameters, in order
abbrev pub asked_of : List Parameter → List Asked
asked_of params = filter_map (λ (p : Parameter). kind_asked p.kind) params

-- a class is System.Type
abbrev pub class_type : List ℕ → Option ArgType
class_type name = if bytes_eq name (codes "System.Type") then Some args.SystemType else None

abbrev pub first_name : List (List ℕ) → Option (List ℕ)
first_name [] = None
first_name (name ∷ names) = Some name

-- the type of an argument, by the first of the names where it is a class or a value type
abbrev pub kind_type : ParameterKind → List (List ℕ) → Option ArgType
kind_type (kinds.Number code) names = Some (args.Prim code)
kind_type kinds.Text names = Some args.Text
kind_type kinds.Boxed names = Some args.Boxed
kind_type (kinds.Class t) names = first_name names >>= class_type
kind_type (kinds.Value t) names = option_map args.Enum (first_name names)
kind_type kinds.Other names = None

abbrev pub array_type : Bool → ArgType → ArgType
array_type array ty = if array then args.Array ty else ty

-- the names that are left behind a parameter
abbrev pub names_behind : ParameterKind → List (List ℕ) → List (List ℕ)
names_behind (kinds.Class t) (name ∷ names) = names
names_behind (kinds.Value t) (name ∷ names) = names
names_behind kind names = names

abbrev pub with_type : ArgType → Option (List ArgType) → Option (List ArgType)
with_type ty types = option_map (λ rest. ty ∷ rest) types

-- the types of the arguments, by the names of the classes and value types among the parameters; none where a parameter
-- may not be one of an attribute
abbrev pub types_of : List Parameter → List (List ℕ) → Option (List ArgType)
types_of [] names = Some []
types_of (p ∷ params) names =
    kind_type p.kind names >>= λ ty. with_type (array_type p.array ty) (types_of params (names_behind p.kind names))

abbrev pub is_value_named : List ℕ → Asked × List ℕ → Bool
is_value_named wanted x = x.0.value && bytes_eq x.1 wanted

-- the first value type among the parameters that has the name
abbrev pub value_token : List Asked → List (List ℕ) → List ℕ → Option Token
value_token asked names wanted = option_map (λ x. x.0.token) (find (is_value_named wanted) (zip asked names))
