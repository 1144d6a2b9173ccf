-- The name of an enum as an attribute spells it, and how the type is looked for by it: the full name, with `+` before
-- each nested name, and after a comma the name of its assembly. ECMA-335 II.23.3.
use Rattle.std.specs.Prelude.{ℕ, ◌+◌, ◌==◌, not, Bool, false, List, [], ◌∷◌, drop, map, take, Option, Some, None}
use Rattle.std.specs.List.{after_last, before_last, filter, position, slice_split}
use Rattle.resolver.specs.declared.enum_widths.EnumStage.TheVariants.{Here}
use Rattle.resolver.specs.declared.waiting.Waiting.{Waiting}
use Rattle.resolver.specs.declared.waiting.Waiting.TheVariants.{Nested}
use Rattle.resolver.specs.declared.named_types.TypeName.{TypeName}
use Rattle.resolver.specs.declared.named_types.TypeStage.TheVariants.{Assembly}
use Rattle.resolver.specs.declared.state.Stage.{Stage}
use Rattle.resolver.specs.declared.state.Stage.TheVariants.{EnumType, NamedType}
use Rattle.resolver.specs.declared.state.State.{State}

abbrev pub is_comma : ℕ → Bool
is_comma c = c == 0x2c

abbrev pub is_plus_sign : ℕ → Bool
is_plus_sign c = c == 0x2b

abbrev pub is_dot : ℕ → Bool
is_dot c = c == 0x2e

abbrev pub is_no_space : ℕ → Bool
is_no_space c = not (c == 0x20)

abbrev pub before_place : List ℕ → Option ℕ → List ℕ
before_place text None = text
before_place text (Some place) = take place text

-- what stands before the first comma, all where there is none
abbrev pub before_comma : List ℕ → List ℕ
before_comma text = before_place text (position is_comma text)

-- the names in one another, the outermost first, parted at each `+`
abbrev pub name_parts : List ℕ → List (List ℕ)
name_parts text = slice_split is_plus_sign (before_comma text)

abbrev pub outermost : List (List ℕ) → List ℕ
outermost [] = []
outermost (part ∷ parts) = part

-- the namespace stands before the last point, and the name after it
abbrev pub dotted_type_name : List ℕ → TypeName
dotted_type_name text = record { namespace = before_last is_dot text; name = after_last is_dot text }

unfoldable pub enum_type_name : List ℕ → TypeName
enum_type_name text = dotted_type_name (outermost (name_parts text))

unfoldable pub nested_names : List ℕ → List (List ℕ)
nested_names text = drop 1 (name_parts text)

abbrev pub assembly_behind : List ℕ → Option ℕ → Option (List ℕ)
assembly_behind text None = None
assembly_behind text (Some place) = Some (filter is_no_space (before_comma (drop (place + 1) text)))

-- what stands between the first comma and the next, without spaces
unfoldable pub enum_assembly : List ℕ → Option (List ℕ)
enum_assembly text = assembly_behind text (position is_comma text)

-- the types nested in the one that is found
abbrev pub nested_waiting : List (List ℕ) → List Waiting
nested_waiting names = map Nested names

-- a name without an assembly is looked for in the module of the attribute and then in all; else in that assembly
abbrev pub search_stage : State → TypeName → Option (List ℕ) → Stage
search_stage s wanted None = EnumType (Here wanted)
search_stage s wanted (Some assembly) = NamedType (Assembly s.modules assembly wanted false)
