-- Values worked out by hand from the standard (ECMA-335 II.22), so that a wrong table, column or size in a definition does not check.
use Rattle.std.specs.Prelude.{◌≡◌, refl, ℕ, List, [], ◌∷◌, map, length, codes, Option, Some, None}
use Rattle.std.specs.List.{filter, list_any, range_with_len}
use Rattle.md_schema.specs.Link.{all_links}
use Rattle.md_schema.specs.Schema.{tables}
use Rattle.md_schema.specs.declared.link.Link.TheVariants.{InterfaceImpl, Constant, CustomAttribute, FieldMarshal, DeclSecurity, ClassLayout, FieldLayout, EventMap, PropertyMap, MethodSemantics, MethodImpl, ImplMap, FieldRVA, NestedClass, Nested, GenericParam, GenericParamConstraint}
use Rattle.slot_store.specs.declared.place.Place.{Place}
use Rattle.node_model.specs.Data.{prim_size}
use Rattle.node_model.specs.KeyKinds.{has_sig, is_root_table, may_link, owns_table}
use Rattle.node_model.specs.Places.{key_place, kinds_of, root_kinds}
use Rattle.node_model.specs.Resources.{counted_bytes}
use Rattle.node_model.specs.Streams.{column_named}
use Rattle.node_model.specs.declared.key.Key.TheVariants.{Row, Sig, Owned, Linked, Facts}
use Rattle.cil_base.specs.Place.{number_at, number_within}
use Rattle.cil_base.specs.Token.{Token, root}

abbrev numbers : List ℕ
numbers = range_with_len 0 64

abbrev type_5 : Token
type_5 = record { table = 0x02; rid = 5 }

abbrev place : ℕ → ℕ → ℕ → Option Place
place table rid kind = Some (record { table = table; rid = rid; kind = kind })

pub sigs-of_seven : filter has_sig numbers ≡ 0x04 ∷ 0x06 ∷ 0x0a ∷ 0x11 ∷ 0x17 ∷ 0x1b ∷ 0x2b ∷ []
unfolding has_sig tables
sigs-of_seven = refl

pub root-tables : filter is_root_table numbers ≡ 0x00 ∷ 0x01 ∷ 0x02 ∷ 0x0a ∷ 0x11 ∷ 0x1a ∷ 0x1b ∷ 0x20 ∷ 0x21 ∷ 0x22 ∷ 0x23 ∷ 0x24 ∷ 0x25 ∷ 0x26 ∷ 0x27 ∷ 0x28 ∷ 0x2b ∷ []
unfolding is_root_table tables
root-tables = refl

pub owners : filter (λ t. list_any (owns_table t) numbers) numbers ≡ 0x02 ∷ 0x06 ∷ 0x12 ∷ 0x15 ∷ []
unfolding owns_table tables
owners = refl

pub owned-by_types : filter (owns_table 0x02) numbers ≡ 0x04 ∷ 0x06 ∷ []
unfolding owns_table tables
owned-by_types = refl

pub owned-by_others : map (λ t. filter (owns_table t) numbers) (0x06 ∷ 0x12 ∷ 0x15 ∷ []) ≡ (0x08 ∷ []) ∷ (0x14 ∷ []) ∷ (0x17 ∷ []) ∷ []
unfolding owns_table tables
owned-by_others = refl

-- the links of a type, of a field, of a method and of a parameter
pub links-of_types : filter (may_link 0x02) all_links ≡ InterfaceImpl ∷ CustomAttribute ∷ DeclSecurity ∷ ClassLayout ∷ EventMap ∷ PropertyMap ∷ MethodImpl ∷ NestedClass ∷ Nested ∷ GenericParam ∷ []
unfolding may_link tables
links-of_types = refl

pub links-of_fields : filter (may_link 0x04) all_links ≡ Constant ∷ CustomAttribute ∷ FieldMarshal ∷ FieldLayout ∷ ImplMap ∷ FieldRVA ∷ []
unfolding may_link tables
links-of_fields = refl

pub links-of_methods : filter (may_link 0x06) all_links ≡ CustomAttribute ∷ DeclSecurity ∷ ImplMap ∷ GenericParam ∷ []
unfolding may_link tables
links-of_methods = refl

pub links-of_properties : filter (may_link 0x17) all_links ≡ Constant ∷ CustomAttribute ∷ MethodSemantics ∷ []
unfolding may_link tables
links-of_properties = refl

pub links-of_generic_params : filter (may_link 0x2a) all_links ≡ CustomAttribute ∷ GenericParamConstraint ∷ []
unfolding may_link tables
links-of_generic_params = refl

-- the columns that bodies, data and resources go by: II.22.26, II.22.18, II.22.8, II.22.24
pub method-columns : map (column_named 0x06) (codes "RVA" ∷ codes "ImplFlags" ∷ []) ≡ 0 ∷ 1 ∷ []
unfolding tables
method-columns = refl

pub data-columns : map (column_named 0x1d) (codes "RVA" ∷ codes "Field" ∷ []) ≡ 0 ∷ 1 ∷ []
unfolding tables
data-columns = refl

pub layout-column : column_named 0x0f (codes "ClassSize") ≡ 1
unfolding tables
layout-column = refl

pub resource-columns : map (column_named 0x28) (codes "Offset" ∷ codes "Implementation" ∷ []) ≡ 0 ∷ 3 ∷ []
unfolding tables
resource-columns = refl

-- void, bool, char, i1 to r8, string
pub prim-sizes : map prim_size (range_with_len 1 14) ≡ None ∷ Some 1 ∷ Some 2 ∷ Some 1 ∷ Some 1 ∷ Some 2 ∷ Some 2 ∷ Some 4 ∷ Some 4 ∷ Some 8 ∷ Some 8 ∷ Some 4 ∷ Some 8 ∷ None ∷ []
prim-sizes = refl

pub bytes-counted : counted_bytes (2 ∷ 0 ∷ 0 ∷ 0 ∷ 0x61 ∷ 0x62 ∷ []) ≡ Some (0x61 ∷ 0x62 ∷ [])
unfolding number_within number_at
bytes-counted = refl

pub bytes-passed : counted_bytes (0xff ∷ 0xff ∷ 0xff ∷ 0xff ∷ 0x61 ∷ 0x62 ∷ []) ≡ None
unfolding number_within number_at
bytes-passed = refl

-- the kinds of keys of a type, of a method, and of a TypeSpec
pub kinds-counted : map (λ t. length (kinds_of t)) (0x02 ∷ 0x06 ∷ 0x1b ∷ []) ≡ 13 ∷ 8 ∷ 3 ∷ []
unfolding kinds_of has_sig owns_table may_link tables
kinds-counted = refl

-- a type's row, its methods, the types that are nested in it, and no signature; the facts, and the root's types
pub places-of_types : map key_place (Row type_5 ∷ Owned type_5 0x06 ∷ Linked type_5 Nested ∷ Sig type_5 ∷ Facts ∷ Owned root 0x02 ∷ [])
    ≡ place 0x02 5 0 ∷ place 0x02 5 2 ∷ place 0x02 5 11 ∷ None ∷ place 63 1 0 ∷ place 63 1 3 ∷ []
unfolding key_place kinds_of root_kinds is_root_table has_sig owns_table may_link tables
places-of_types = refl
