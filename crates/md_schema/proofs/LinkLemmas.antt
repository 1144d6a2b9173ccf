-- The column of each link stands in its table.
use Rattle.std.proofs.Common.{◌≡◌, Some, refl}
use Rattle.md_schema.specs.Link.{link_kind_of}
use Rattle.md_schema.specs.Schema.{tables}
use Rattle.md_schema.specs.declared.column.ColumnKind.{ColumnKind}
use Rattle.md_schema.specs.declared.link.Link.{Link}
use Rattle.md_schema.specs.declared.link.Link.TheVariants.{InterfaceImpl, Constant, CustomAttribute, FieldMarshal, DeclSecurity, ClassLayout, FieldLayout, EventMap, PropertyMap, MethodSemantics, MethodImpl, ImplMap, FieldRVA, NestedClass, Nested, GenericParam, GenericParamConstraint}

pub link_stands : (link : Link) → (kind : ColumnKind) × (link_kind_of link ≡ Some kind)
unfolding tables
link_stands InterfaceImpl = (_, refl)
link_stands Constant = (_, refl)
link_stands CustomAttribute = (_, refl)
link_stands FieldMarshal = (_, refl)
link_stands DeclSecurity = (_, refl)
link_stands ClassLayout = (_, refl)
link_stands FieldLayout = (_, refl)
link_stands EventMap = (_, refl)
link_stands PropertyMap = (_, refl)
link_stands MethodSemantics = (_, refl)
link_stands MethodImpl = (_, refl)
link_stands ImplMap = (_, refl)
link_stands FieldRVA = (_, refl)
link_stands NestedClass = (_, refl)
link_stands Nested = (_, refl)
link_stands GenericParam = (_, refl)
link_stands GenericParamConstraint = (_, refl)
