-- The links: the columns by which rows belong to the rows that they name. ECMA-335 II.22, the clause of each table.
use Rattle.std.specs.Prelude.{ℕ, List, [], ◌∷◌, Option}
use lib.Chars.{codes}
use Rattle.std.specs.Option.{option_map}
use Rattle.md_schema.specs.Entry.{column_of}
use Rattle.md_schema.specs.declared.column.ColumnKind.{ColumnKind}
use Rattle.md_schema.specs.declared.link.Link.{Link}
use Rattle.md_schema.specs.declared.link.Link.TheVariants.{InterfaceImpl, Constant, CustomAttribute, FieldMarshal}
use Rattle.md_schema.specs.declared.link.Link.TheVariants.{DeclSecurity, ClassLayout, FieldLayout, EventMap}
use Rattle.md_schema.specs.declared.link.Link.TheVariants.{PropertyMap, MethodSemantics, MethodImpl, ImplMap}
use Rattle.md_schema.specs.declared.link.Link.TheVariants.{FieldRVA, NestedClass, Nested, GenericParam}
use Rattle.md_schema.specs.declared.link.Link.TheVariants.{GenericParamConstraint}

abbrev pub all_links : List Link
all_links =
    InterfaceImpl ∷ Constant ∷ CustomAttribute ∷ FieldMarshal
    ∷ DeclSecurity ∷ ClassLayout ∷ FieldLayout ∷ EventMap
    ∷ PropertyMap ∷ MethodSemantics ∷ MethodImpl ∷ ImplMap
    ∷ FieldRVA ∷ NestedClass ∷ Nested ∷ GenericParam
    ∷ GenericParamConstraint
    ∷ []

-- the table whose rows the link lists
abbrev pub link_table_of : Link → ℕ
link_table_of InterfaceImpl = 0x09
link_table_of Constant = 0x0b
link_table_of CustomAttribute = 0x0c
link_table_of FieldMarshal = 0x0d
link_table_of DeclSecurity = 0x0e
link_table_of ClassLayout = 0x0f
link_table_of FieldLayout = 0x10
link_table_of EventMap = 0x12
link_table_of PropertyMap = 0x15
link_table_of MethodSemantics = 0x18
link_table_of MethodImpl = 0x19
link_table_of ImplMap = 0x1c
link_table_of FieldRVA = 0x1d
link_table_of NestedClass = 0x29
link_table_of Nested = 0x29
link_table_of GenericParam = 0x2a
link_table_of GenericParamConstraint = 0x2c

-- the number of the column that it reads
abbrev pub link_column_of : Link → ℕ
link_column_of InterfaceImpl = 0
link_column_of Constant = 1
link_column_of CustomAttribute = 0
link_column_of FieldMarshal = 0
link_column_of DeclSecurity = 1
link_column_of ClassLayout = 2
link_column_of FieldLayout = 1
link_column_of EventMap = 0
link_column_of PropertyMap = 0
link_column_of MethodSemantics = 2
link_column_of MethodImpl = 0
link_column_of ImplMap = 1
link_column_of FieldRVA = 1
link_column_of NestedClass = 0
link_column_of Nested = 1
link_column_of GenericParam = 2
link_column_of GenericParamConstraint = 0

abbrev pub link_name_of : Link → List ℕ
link_name_of InterfaceImpl = codes "InterfaceImpl"
link_name_of Constant = codes "Constant"
link_name_of CustomAttribute = codes "CustomAttribute"
link_name_of FieldMarshal = codes "FieldMarshal"
link_name_of DeclSecurity = codes "DeclSecurity"
link_name_of ClassLayout = codes "ClassLayout"
link_name_of FieldLayout = codes "FieldLayout"
link_name_of EventMap = codes "EventMap"
link_name_of PropertyMap = codes "PropertyMap"
link_name_of MethodSemantics = codes "MethodSemantics"
link_name_of MethodImpl = codes "MethodImpl"
link_name_of ImplMap = codes "ImplMap"
link_name_of FieldRVA = codes "FieldRVA"
link_name_of NestedClass = codes "NestedClass"
link_name_of Nested = codes "Nested"
link_name_of GenericParam = codes "GenericParam"
link_name_of GenericParamConstraint = codes "GenericParamConstraint"

-- what the column holds
abbrev pub link_kind_of : Link → Option ColumnKind
link_kind_of link = option_map (λ column. column.kind) (column_of (link_table_of link) (link_column_of link))
