-- The 38 tables and their columns: ECMA-335 II.22, the clause of each table.
use Rattle.std.specs.Prelude.{ℕ, List, [], ◌∷◌}
use lib.Chars.{codes}
use Rattle.md_schema.specs.Column.{ColumnOf}
use Rattle.md_schema.specs.Tables.{assembly_ref, event, event_map, field, generic_param, method_def, module_ref}
use Rattle.md_schema.specs.Tables.{param, property, property_map, type_def}
use Rattle.md_schema.specs.declared.column.ColumnKind.{ColumnKind}
use Rattle.md_schema.specs.declared.column.ColumnKind.TheVariants.{U8Pad, U16, U32, Text, Guid, Blob, Sig, Index}
use Rattle.md_schema.specs.declared.column.ColumnKind.TheVariants.{Coded, Start, Rva, Offset}
use Rattle.md_schema.specs.declared.coded_kind.CodedKind.TheVariants.{TypeDefOrRef, HasConstant, HasCustomAttribute}
use Rattle.md_schema.specs.declared.coded_kind.CodedKind.TheVariants.{HasFieldMarshal, HasDeclSecurity}
use Rattle.md_schema.specs.declared.coded_kind.CodedKind.TheVariants.{MemberRefParent, HasSemantics, MethodDefOrRef}
use Rattle.md_schema.specs.declared.coded_kind.CodedKind.TheVariants.{MemberForwarded, Implementation}
use Rattle.md_schema.specs.declared.coded_kind.CodedKind.TheVariants.{CustomAttributeType, ResolutionScope}
use Rattle.md_schema.specs.declared.coded_kind.CodedKind.TheVariants.{TypeOrMethodDef}
use Rattle.md_schema.specs.declared.holder.Holder.{Holder}
use Rattle.md_schema.specs.declared.holder.Holder.TheVariants.{Root, Owner, Link as Listed}
use Rattle.md_schema.specs.declared.link.Link.TheVariants.{InterfaceImpl, Constant, CustomAttribute, FieldMarshal}
use Rattle.md_schema.specs.declared.link.Link.TheVariants.{DeclSecurity, ClassLayout, FieldLayout, EventMap}
use Rattle.md_schema.specs.declared.link.Link.TheVariants.{PropertyMap, MethodSemantics, MethodImpl, ImplMap}
use Rattle.md_schema.specs.declared.link.Link.TheVariants.{FieldRVA, NestedClass, GenericParam}
use Rattle.md_schema.specs.declared.link.Link.TheVariants.{GenericParamConstraint}

-- a table: its number, its name, where its rows are listed, and its columns from number 0
pub record TableOf : Type 0 where
  pub number : ℕ
  pub name : List ℕ
  pub holder : Holder
  pub columns : List ColumnOf

abbrev table : ℕ → List ℕ → Holder → List ColumnOf → TableOf
table number name holder columns = record { number = number; name = name; holder = holder; columns = columns }

abbrev column : List ℕ → ColumnKind → ColumnOf
column name kind = record { name = name; kind = kind }

unfoldable pub tables : List TableOf
tables =
    table 0x00 (codes "Module") Root
    (column (codes "Generation") U16
    ∷ column (codes "Name") Text
    ∷ column (codes "Mvid") Guid
    ∷ column (codes "EncId") Guid
    ∷ column (codes "EncBaseId") Guid ∷ [])
    ∷ table 0x01 (codes "TypeRef") Root
    (column (codes "ResolutionScope") (Coded ResolutionScope)
    ∷ column (codes "Name") Text
    ∷ column (codes "Namespace") Text ∷ [])
    ∷ table 0x02 (codes "TypeDef") Root
    (column (codes "Flags") U32
    ∷ column (codes "Name") Text
    ∷ column (codes "Namespace") Text
    ∷ column (codes "Extends") (Coded TypeDefOrRef)
    ∷ column (codes "FieldList") (Start field)
    ∷ column (codes "MethodList") (Start method_def) ∷ [])
    ∷ table 0x04 (codes "Field") (Owner type_def)
    (column (codes "Flags") U16
    ∷ column (codes "Name") Text
    ∷ column (codes "Signature") Sig ∷ [])
    ∷ table 0x06 (codes "MethodDef") (Owner type_def)
    (column (codes "RVA") Rva
    ∷ column (codes "ImplFlags") U16
    ∷ column (codes "Flags") U16
    ∷ column (codes "Name") Text
    ∷ column (codes "Signature") Sig
    ∷ column (codes "ParamList") (Start param) ∷ [])
    ∷ table 0x08 (codes "Param") (Owner method_def)
    (column (codes "Flags") U16
    ∷ column (codes "Sequence") U16
    ∷ column (codes "Name") Text ∷ [])
    ∷ table 0x09 (codes "InterfaceImpl") (Listed InterfaceImpl)
    (column (codes "Class") (Index type_def)
    ∷ column (codes "Interface") (Coded TypeDefOrRef) ∷ [])
    ∷ table 0x0a (codes "MemberRef") Root
    (column (codes "Class") (Coded MemberRefParent)
    ∷ column (codes "Name") Text
    ∷ column (codes "Signature") Sig ∷ [])
    ∷ table 0x0b (codes "Constant") (Listed Constant)
    (column (codes "Type") U8Pad
    ∷ column (codes "Parent") (Coded HasConstant)
    ∷ column (codes "Value") Blob ∷ [])
    ∷ table 0x0c (codes "CustomAttribute") (Listed CustomAttribute)
    (column (codes "Parent") (Coded HasCustomAttribute)
    ∷ column (codes "Type") (Coded CustomAttributeType)
    ∷ column (codes "Value") Blob ∷ [])
    ∷ table 0x0d (codes "FieldMarshal") (Listed FieldMarshal)
    (column (codes "Parent") (Coded HasFieldMarshal)
    ∷ column (codes "NativeType") Blob ∷ [])
    ∷ table 0x0e (codes "DeclSecurity") (Listed DeclSecurity)
    (column (codes "Action") U16
    ∷ column (codes "Parent") (Coded HasDeclSecurity)
    ∷ column (codes "PermissionSet") Blob ∷ [])
    ∷ table 0x0f (codes "ClassLayout") (Listed ClassLayout)
    (column (codes "PackingSize") U16
    ∷ column (codes "ClassSize") U32
    ∷ column (codes "Parent") (Index type_def) ∷ [])
    ∷ table 0x10 (codes "FieldLayout") (Listed FieldLayout)
    (column (codes "Offset") U32
    ∷ column (codes "Field") (Index field) ∷ [])
    ∷ table 0x11 (codes "StandAloneSig") Root
    (column (codes "Signature") Sig ∷ [])
    ∷ table 0x12 (codes "EventMap") (Listed EventMap)
    (column (codes "Parent") (Index type_def)
    ∷ column (codes "EventList") (Start event) ∷ [])
    ∷ table 0x14 (codes "Event") (Owner event_map)
    (column (codes "Flags") U16
    ∷ column (codes "Name") Text
    ∷ column (codes "EventType") (Coded TypeDefOrRef) ∷ [])
    ∷ table 0x15 (codes "PropertyMap") (Listed PropertyMap)
    (column (codes "Parent") (Index type_def)
    ∷ column (codes "PropertyList") (Start property) ∷ [])
    ∷ table 0x17 (codes "Property") (Owner property_map)
    (column (codes "Flags") U16
    ∷ column (codes "Name") Text
    ∷ column (codes "Type") Sig ∷ [])
    ∷ table 0x18 (codes "MethodSemantics") (Listed MethodSemantics)
    (column (codes "Semantics") U16
    ∷ column (codes "Method") (Index method_def)
    ∷ column (codes "Association") (Coded HasSemantics) ∷ [])
    ∷ table 0x19 (codes "MethodImpl") (Listed MethodImpl)
    (column (codes "Class") (Index type_def)
    ∷ column (codes "MethodBody") (Coded MethodDefOrRef)
    ∷ column (codes "MethodDeclaration") (Coded MethodDefOrRef) ∷ [])
    ∷ table 0x1a (codes "ModuleRef") Root
    (column (codes "Name") Text ∷ [])
    ∷ table 0x1b (codes "TypeSpec") Root
    (column (codes "Signature") Sig ∷ [])
    ∷ table 0x1c (codes "ImplMap") (Listed ImplMap)
    (column (codes "MappingFlags") U16
    ∷ column (codes "MemberForwarded") (Coded MemberForwarded)
    ∷ column (codes "ImportName") Text
    ∷ column (codes "ImportScope") (Index module_ref) ∷ [])
    ∷ table 0x1d (codes "FieldRVA") (Listed FieldRVA)
    (column (codes "RVA") Rva
    ∷ column (codes "Field") (Index field) ∷ [])
    ∷ table 0x20 (codes "Assembly") Root
    (column (codes "HashAlgId") U32
    ∷ column (codes "Major") U16
    ∷ column (codes "Minor") U16
    ∷ column (codes "Build") U16
    ∷ column (codes "Revision") U16
    ∷ column (codes "Flags") U32
    ∷ column (codes "PublicKey") Blob
    ∷ column (codes "Name") Text
    ∷ column (codes "Culture") Text ∷ [])
    ∷ table 0x21 (codes "AssemblyProcessor") Root
    (column (codes "Processor") U32 ∷ [])
    ∷ table 0x22 (codes "AssemblyOS") Root
    (column (codes "PlatformID") U32
    ∷ column (codes "MajorVersion") U32
    ∷ column (codes "MinorVersion") U32 ∷ [])
    ∷ table 0x23 (codes "AssemblyRef") Root
    (column (codes "Major") U16
    ∷ column (codes "Minor") U16
    ∷ column (codes "Build") U16
    ∷ column (codes "Revision") U16
    ∷ column (codes "Flags") U32
    ∷ column (codes "PublicKeyOrToken") Blob
    ∷ column (codes "Name") Text
    ∷ column (codes "Culture") Text
    ∷ column (codes "HashValue") Blob ∷ [])
    ∷ table 0x24 (codes "AssemblyRefProcessor") Root
    (column (codes "Processor") U32
    ∷ column (codes "AssemblyRef") (Index assembly_ref) ∷ [])
    ∷ table 0x25 (codes "AssemblyRefOS") Root
    (column (codes "PlatformID") U32
    ∷ column (codes "MajorVersion") U32
    ∷ column (codes "MinorVersion") U32
    ∷ column (codes "AssemblyRef") (Index assembly_ref) ∷ [])
    ∷ table 0x26 (codes "File") Root
    (column (codes "Flags") U32
    ∷ column (codes "Name") Text
    ∷ column (codes "HashValue") Blob ∷ [])
    ∷ table 0x27 (codes "ExportedType") Root
    (column (codes "Flags") U32
    ∷ column (codes "TypeDefId") U32
    ∷ column (codes "Name") Text
    ∷ column (codes "Namespace") Text
    ∷ column (codes "Implementation") (Coded Implementation) ∷ [])
    ∷ table 0x28 (codes "ManifestResource") Root
    (column (codes "Offset") Offset
    ∷ column (codes "Flags") U32
    ∷ column (codes "Name") Text
    ∷ column (codes "Implementation") (Coded Implementation) ∷ [])
    ∷ table 0x29 (codes "NestedClass") (Listed NestedClass)
    (column (codes "NestedClass") (Index type_def)
    ∷ column (codes "EnclosingClass") (Index type_def) ∷ [])
    ∷ table 0x2a (codes "GenericParam") (Listed GenericParam)
    (column (codes "Number") U16
    ∷ column (codes "Flags") U16
    ∷ column (codes "Owner") (Coded TypeOrMethodDef)
    ∷ column (codes "Name") Text ∷ [])
    ∷ table 0x2b (codes "MethodSpec") Root
    (column (codes "Method") (Coded MethodDefOrRef)
    ∷ column (codes "Instantiation") Sig ∷ [])
    ∷ table 0x2c (codes "GenericParamConstraint") (Listed GenericParamConstraint)
    (column (codes "Owner") (Index generic_param)
    ∷ column (codes "Constraint") (Coded TypeDefOrRef) ∷ [])
    ∷ []
