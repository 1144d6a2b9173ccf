-- What the replies about references lead to: ECMA-335 II.22.25, II.22.29, II.22.38, II.22.39.
use Rattle.std.specs.Prelude.{ℕ, ◌==◌, false, List, [], ◌∷◌, codes, Option, Some, None, if◌then◌else◌}
use Rattle.cil_base.specs.Token.{Token}
use Rattle.md_schema.specs.Tables.{assembly_ref, method_def, module_, module_ref, type_ref}
use Rattle.sig_tree.specs.declared.tree.SigTree.{SigTree}
use Rattle.sig_tree.specs.declared.tree.SigTree.TheVariants.{Plain}
use Rattle.sig_tree.specs.declared.tree.TypeSig.{TypeSig}
use Rattle.sig_tree.specs.declared.tree.TypeSig.TheOpen.{TypeSig-F, Value, Class, Inst}
use Rattle.sig_tree.specs.declared.tree.TypeSig.TheViews.{out-TypeSig}
use Rattle.sig_tree.specs.declared.tree.MethodSig.{MethodSig}
use Rattle.node_model.specs.RowTexts.{text_named, token_named}
use Rattle.node_model.specs.declared.reply.Reply.{Reply}
use Rattle.node_model.specs.declared.value.RowValue.{RowValue}
use Rattle.resolver.specs.Found.{found, hop, on_row, on_sig, unresolved}
use Rattle.resolver.specs.declared.waiting.Waiting.TheVariants.{Nested as NestedIn, Class as ClassOf}
use Rattle.resolver.specs.declared.named_types.TypeName.{TypeName}
use Rattle.resolver.specs.declared.named_types.TypeStage.TheVariants.{AssemblyRef, ByName}
use Rattle.resolver.specs.declared.references.ReferenceStage.{ReferenceStage}
use Rattle.resolver.specs.declared.references.ReferenceStage.TheVariants.{TypeRef, TypeSpec, MethodSpec, MemberRef}
use Rattle.resolver.specs.declared.state.Advance.{Advance}
use Rattle.resolver.specs.declared.state.Advance.TheVariants.{To}
use Rattle.resolver.specs.declared.state.Stage.TheVariants.{NamedType}
use Rattle.resolver.specs.declared.state.State.{State}

-- the cell Name of a row
abbrev pub row_name : RowValue → List ℕ
row_name row = text_named (codes "Name") row

-- the type that a TypeRef, a TypeDef or an ExportedType row names
abbrev pub row_type_name : RowValue → TypeName
row_type_name row = record { namespace = text_named (codes "Namespace") row; name = row_name row }

-- a TypeRef by its scope: its own module, another assembly, or the type that it is nested in
abbrev pub after_scope : State → ℕ → RowValue → Option Token → Advance
after_scope s at row None = unresolved s (row_name row)
after_scope s at row (Some scope) =
    if scope.table == module_ then To (NamedType (ByName at (row_type_name row) false))
    else if scope.table == assembly_ref then To (NamedType (AssemblyRef at scope (row_type_name row)))
    else if scope.table == type_ref then hop s (NestedIn (row_name row) ∷ s.waiting) at scope
    else unresolved s (row_name row)

-- the type of a TypeSpec that is a class, a value type or an instance of one (II.23.2.14)
abbrev pub spec_type_token : TypeSig-F TypeSig MethodSig → Option Token
spec_type_token (Class t) = Some t
spec_type_token (Value t) = Some t
spec_type_token (Inst value of args) = Some of
spec_type_token _ = None

abbrev pub spec_token : SigTree → Option Token
spec_token (Plain ty) = spec_type_token (out-TypeSig ty)
spec_token _ = None

-- a token that a TypeSpec or a MethodSpec leads to; neither has a name
abbrev pub after_spec : State → ℕ → Option Token → Advance
after_spec s at None = unresolved s []
after_spec s at (Some t) = hop s s.waiting at t

-- a MemberRef by its Class: a method, or the type that the member is looked for in
abbrev pub after_class : State → ℕ → Token → List ℕ → Option Token → Advance
after_class s at member name None = unresolved s name
after_class s at member name (Some class) =
    if class.table == method_def then found s at class
    else if class.table == module_ref then unresolved s name
    else hop s (ClassOf at member name ∷ s.waiting) at class

abbrev pub after_reference : State → ReferenceStage → Reply → Advance
after_reference s (TypeRef at t) r =
    on_row r (λ row. after_scope s at row (token_named (codes "ResolutionScope") row))
after_reference s (TypeSpec at t) r = on_sig r (λ sig. after_spec s at (spec_token sig))
after_reference s (MethodSpec at t) r = on_row r (λ row. after_spec s at (token_named (codes "Method") row))
after_reference s (MemberRef at t) r =
    on_row r (λ row. after_class s at t (row_name row) (token_named (codes "Class") row))
