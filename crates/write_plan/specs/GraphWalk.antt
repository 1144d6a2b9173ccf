-- The walk over a graph that is to be written: the rows that are kept, and the keys in the order in which they are
-- taken. The order of the tables is this library's own; which lists a row has is in the schema (ECMA-335 II.22).
use Rattle.std.specs.Prelude.{ℕ, List, [], ◌∷◌, ◌++◌, map, fold, ◌==◌, if◌then◌else◌, Option, None}
use Rattle.std.specs.List.{filter, flat_map, list_any, range_with_len}
use Rattle.cil_base.specs.Token.{Token, root}
use Rattle.md_schema.specs.Tables.{class_layout, constant, custom_attribute, decl_security, event, event_map, field}
use Rattle.md_schema.specs.Tables.{field_layout, field_marshal, field_rva, generic_param, generic_param_constraint}
use Rattle.md_schema.specs.Tables.{impl_map, interface_impl, method_def, method_impl, method_semantics, nested_class}
use Rattle.md_schema.specs.Tables.{param, property, property_map}
use Rattle.md_schema.specs.declared.link.Link.TheVariants.{Nested}
use Rattle.node_model.specs.KeyKinds.{has_kind, is_root_table}
use Rattle.node_model.specs.Keys.{same_key, same_token}
use Rattle.node_model.specs.RowLists.{list_key}
use Rattle.node_model.specs.declared.key.Key.{Key}
use Rattle.node_model.specs.declared.key.Key.TheVariants.{Row, Sig, Owned, Linked, Body, Data, Resource, Facts}
use Rattle.node_model.specs.declared.look.Look.{Look}
use Rattle.node_model.specs.declared.value.Value.{Value}
use Rattle.write_plan.specs.Seen.{is_seen, list_members, value_seen}

-- the tables in the order of the walk: those that the image itself lists, then each behind the tables whose rows list
-- its rows
unfoldable pub walk_tables : List ℕ
walk_tables =
    filter is_root_table (range_with_len 0 64)
    ++ field ∷ method_def ∷ param ∷ event_map ∷ event ∷ property_map ∷ property
    ∷ interface_impl ∷ method_semantics ∷ method_impl ∷ class_layout ∷ field_layout ∷ field_rva ∷ impl_map
    ∷ nested_class ∷ generic_param ∷ generic_param_constraint
    ∷ constant ∷ field_marshal ∷ decl_security ∷ custom_attribute ∷ []

-- the rows of one table among these
abbrev pub rows_of_table : ℕ → List Token → List Token
rows_of_table table rows = filter (λ t. t.table == table) rows

-- the lists in which the rows of a table stand: that of the image, or those that the rows kept so far have
abbrev pub list_keys : List Token → ℕ → List Key
list_keys rows table =
    if is_root_table table then Owned root table ∷ [] else filter has_kind (map (λ owner. list_key owner table) rows)

-- what else a kept row holds
abbrev pub own_keys : Token → List Key
own_keys t = Row t ∷ filter has_kind (Sig t ∷ Body t ∷ Data t ∷ Resource t ∷ [])

-- behind the rows of NestedClass, the lists of the types that stand in another; these bring no row into the walk
abbrev pub nested_keys : List Token → ℕ → List Key
nested_keys rows table = if table == nested_class then filter has_kind (map (λ t. Linked t Nested) rows) else []

-- the rows that a walk met: all that it keeps, each once; those of the table that it is at; and those that it met
-- once more
pub record Met : Type 0 where
  pub all : List Token
  pub rows : List Token
  pub again : List Token

abbrev pub met_one : Met → Token → Met
met_one m t =
    if list_any (same_token t) m.all
    then record { all = m.all; rows = m.rows; again = m.again ++ t ∷ [] }
    else record { all = m.all ++ t ∷ []; rows = m.rows ++ t ∷ []; again = m.again }

-- a row that was removed is passed over
abbrev pub row_met : (Key → Look) → Met → Token → Met
row_met see m t = if is_seen (see (Row t)) then met_one m t else m

-- a member of a list of rows of the table
abbrev pub member_met : (Key → Look) → ℕ → Met → Token → Met
member_met see table m t = if t.table == table then row_met see m t else m

-- the keys in the order of the walk, the rows that it keeps, and those that it met once more
pub record Walked : Type 0 where
  pub keys : List Key
  pub all : List Token
  pub again : List Token

-- the members of the lists of a table
abbrev pub members_seen : (Key → Look) → List Token → ℕ → List Token
members_seen see rows table = flat_map (λ k. list_members (value_seen (see k))) (list_keys rows table)

abbrev pub table_met : (Key → Look) → Walked → ℕ → Met
table_met see w table =
    fold (member_met see table) (record { all = w.all; rows = []; again = w.again }) (members_seen see w.all table)

-- the keys that a table brings: its lists, and then what its kept rows hold, row by row
abbrev pub table_keys : (Key → Look) → Walked → ℕ → List Key
table_keys see w table =
    list_keys w.all table ++ (flat_map own_keys (table_met see w table).rows ++ nested_keys w.all table)

abbrev pub table_walked : (Key → Look) → Walked → ℕ → Walked
table_walked see w table = record {
  keys = w.keys ++ table_keys see w table;
  all = (table_met see w table).all;
  again = (table_met see w table).again;
}

abbrev pub walk_start : Walked
walk_start = record { keys = Facts ∷ []; all = []; again = [] }

-- the whole walk
unfoldable pub graph_walk : (Key → Look) → Walked
graph_walk see = fold (table_walked see) walk_start walk_tables

-- what a key holds, if it is one of these
abbrev pub value_among : (Key → Look) → List Key → Key → Option Value
value_among see keys k = if list_any (same_key k) keys then value_seen (see k) else None

-- what a key of the walk holds
abbrev pub walked_value : (Key → Look) → Key → Option Value
walked_value see k = value_among see (graph_walk see).keys k
