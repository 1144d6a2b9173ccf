-- What the replies to searches for types by their names lead to: ECMA-335 II.22.2, II.22.5, II.22.14, II.22.32,
-- II.22.37.
use Rattle.std.specs.Prelude.{ℕ, ◌-◌, ◌==◌, ◌&&◌, Bool, true, List, codes, Option, Some, None, if◌then◌else◌}
use Rattle.std.specs.Str.{bytes_eq}
use Rattle.cil_base.specs.Token.{Token}
use Rattle.md_schema.specs.Tables.{assembly_ref}
use Rattle.node_model.specs.RowTexts.{text_named, token_named}
use Rattle.node_model.specs.declared.reply.Reply.{Reply}
use Rattle.node_model.specs.declared.value.RowValue.{RowValue}
use Rattle.resolver.specs.Found.{found, hop_to, on_found, on_row, on_tokens, unresolved}
use Rattle.resolver.specs.References.{row_name}
use Rattle.resolver.specs.declared.named_types.TypeName.{TypeName}
use Rattle.resolver.specs.declared.named_types.TypeStage.{TypeStage}
use Rattle.resolver.specs.declared.named_types.TypeStage.TheVariants.{AssemblyRef, Assembly, ByName, ExportedTypes}
use Rattle.resolver.specs.declared.named_types.TypeStage.TheVariants.{ExportedType, NestedTypes, NestedRow, NestedType}
use Rattle.resolver.specs.declared.state.Advance.{Advance}
use Rattle.resolver.specs.declared.state.Advance.TheVariants.{To, Over, Onward}
use Rattle.resolver.specs.declared.state.Stage.{Stage}
use Rattle.resolver.specs.declared.state.Stage.TheVariants.{NamedType}
use Rattle.resolver.specs.declared.state.State.{State}

abbrev pub is_row_of_type : TypeName → RowValue → Bool
is_row_of_type wanted row =
    bytes_eq (row_name row) wanted.name && bytes_eq (text_named (codes "Namespace") row) wanted.namespace

-- the assembly of a module: the one that is wanted, or the next module is asked
abbrev pub after_assembly : State → ℕ → List ℕ → TypeName → Bool → Bool → Advance
after_assembly s left name wanted forwards same =
    if same then To (NamedType (ByName (s.modules - left) wanted forwards))
    else To (NamedType (Assembly (left - 1) name wanted forwards))

-- no such type in a module: where a reference to an assembly led there, its exported types may lead on
abbrev pub after_no_type : State → ℕ → TypeName → Bool → Advance
after_no_type s at wanted forwards =
    if forwards then To (NamedType (ExportedTypes at wanted)) else unresolved s wanted.name

-- an exported type of that name is followed where it stands in another assembly, which is a step like one to a token
abbrev pub after_forward : State → ℕ → TypeName → Option Token → Advance
after_forward s at wanted None = unresolved s wanted.name
after_forward s at wanted (Some t) =
    if t.table == assembly_ref then hop_to s (AssemblyRef at t wanted) else unresolved s wanted.name

abbrev pub after_exported : State → ℕ → TypeName → RowValue → Advance
after_exported s at wanted row =
    if is_row_of_type wanted row then after_forward s at wanted (token_named (codes "Implementation") row)
    else Onward (NamedType (ExportedType at wanted))

-- a NestedClass row without a type is passed over
abbrev pub after_nested_row : ℕ → List ℕ → Option Token → Advance
after_nested_row at name None = Onward (NamedType (NestedRow at name))
after_nested_row at name (Some t) = To (NamedType (NestedType at t name))

abbrev pub after_nested_type : State → ℕ → Token → List ℕ → Bool → Advance
after_nested_type s at t name same = if same then found s at t else Onward (NamedType (NestedRow at name))

abbrev pub after_named_type : State → TypeStage → Reply → Advance
after_named_type s (AssemblyRef at t wanted) r =
    on_row r (λ row. To (NamedType (Assembly s.modules (row_name row) wanted true)))
after_named_type s (Assembly left name wanted forwards) r =
    on_row r (λ row. after_assembly s left name wanted forwards (bytes_eq (row_name row) name))
after_named_type s (ByName at wanted forwards) r = on_found r (found s at) (after_no_type s at wanted forwards)
after_named_type s (ExportedTypes at wanted) r = on_tokens r (λ ts. Over ts (NamedType (ExportedType at wanted)))
after_named_type s (ExportedType at wanted) r = on_row r (after_exported s at wanted)
after_named_type s (NestedTypes at t name) r = on_tokens r (λ ts. Over ts (NamedType (NestedRow at name)))
after_named_type s (NestedRow at name) r =
    on_row r (λ row. after_nested_row at name (token_named (codes "NestedClass") row))
after_named_type s (NestedType at t name) r =
    on_row r (λ row. after_nested_type s at t name (bytes_eq (row_name row) name))

-- the stage after a module without an assembly
abbrev pub next_assembly : ℕ → List ℕ → TypeName → Bool → Stage
next_assembly left name wanted forwards = NamedType (Assembly (left - 1) name wanted forwards)
