-- The tables that each kind of coded index may name, by tag: ECMA-335 II.24.2.6.
use Rattle.std.specs.Prelude.{ℕ, List, [], ◌∷◌, Option, Some, None, slice_get}
use Rattle.std.specs.Option.{unwrap_or}
use Rattle.md_schema.specs.Tables.{module_, type_ref, type_def, field, method_def, param, interface_impl, member_ref}
use Rattle.md_schema.specs.Tables.{decl_security, stand_alone_sig, event, property, module_ref, type_spec, assembly}
use Rattle.md_schema.specs.Tables.{assembly_ref, file, exported_type, manifest_resource, generic_param, method_spec}
use Rattle.md_schema.specs.Tables.{generic_param_constraint}
use Rattle.md_schema.specs.declared.coded_kind.CodedKind.{CodedKind}
use Rattle.md_schema.specs.declared.coded_kind.CodedKind.TheVariants.{TypeDefOrRef, HasConstant, HasCustomAttribute}
use Rattle.md_schema.specs.declared.coded_kind.CodedKind.TheVariants.{HasFieldMarshal, HasDeclSecurity}
use Rattle.md_schema.specs.declared.coded_kind.CodedKind.TheVariants.{MemberRefParent, HasSemantics, MethodDefOrRef}
use Rattle.md_schema.specs.declared.coded_kind.CodedKind.TheVariants.{MemberForwarded, Implementation}
use Rattle.md_schema.specs.declared.coded_kind.CodedKind.TheVariants.{CustomAttributeType, ResolutionScope}
use Rattle.md_schema.specs.declared.coded_kind.CodedKind.TheVariants.{TypeOrMethodDef}

-- how many low bits are the tag
abbrev pub tag_bits_of : CodedKind → ℕ
tag_bits_of TypeDefOrRef = 2
tag_bits_of HasConstant = 2
tag_bits_of HasCustomAttribute = 5
tag_bits_of HasFieldMarshal = 1
tag_bits_of HasDeclSecurity = 2
tag_bits_of MemberRefParent = 3
tag_bits_of HasSemantics = 1
tag_bits_of MethodDefOrRef = 1
tag_bits_of MemberForwarded = 1
tag_bits_of Implementation = 2
tag_bits_of CustomAttributeType = 3
tag_bits_of ResolutionScope = 2
tag_bits_of TypeOrMethodDef = 1

-- the table of each tag, from tag 0; an unused tag has none
abbrev pub tables_of : CodedKind → List (Option ℕ)
tables_of TypeDefOrRef = Some type_def ∷ Some type_ref ∷ Some type_spec ∷ []
tables_of HasConstant = Some field ∷ Some param ∷ Some property ∷ []
tables_of HasCustomAttribute =
    Some method_def ∷ Some field ∷ Some type_ref ∷ Some type_def ∷ Some param ∷ Some interface_impl
    ∷ Some member_ref ∷ Some module_ ∷ Some decl_security ∷ Some property ∷ Some event
    ∷ Some stand_alone_sig ∷ Some module_ref ∷ Some type_spec ∷ Some assembly ∷ Some assembly_ref
    ∷ Some file ∷ Some exported_type ∷ Some manifest_resource ∷ Some generic_param
    ∷ Some generic_param_constraint ∷ Some method_spec ∷ []
tables_of HasFieldMarshal = Some field ∷ Some param ∷ []
tables_of HasDeclSecurity = Some type_def ∷ Some method_def ∷ Some assembly ∷ []
tables_of MemberRefParent =
    Some type_def ∷ Some type_ref ∷ Some module_ref ∷ Some method_def ∷ Some type_spec ∷ []
tables_of HasSemantics = Some event ∷ Some property ∷ []
tables_of MethodDefOrRef = Some method_def ∷ Some member_ref ∷ []
tables_of MemberForwarded = Some field ∷ Some method_def ∷ []
tables_of Implementation = Some file ∷ Some assembly_ref ∷ Some exported_type ∷ []
tables_of CustomAttributeType = None ∷ None ∷ Some method_def ∷ Some member_ref ∷ []
tables_of ResolutionScope = Some module_ ∷ Some module_ref ∷ Some assembly_ref ∷ Some type_ref ∷ []
tables_of TypeOrMethodDef = Some type_def ∷ Some method_def ∷ []

-- the table that a tag names
abbrev pub tag_table_of : CodedKind → ℕ → Option ℕ
tag_table_of kind tag = unwrap_or (slice_get (tables_of kind) tag) None
