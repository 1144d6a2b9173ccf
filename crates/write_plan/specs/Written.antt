-- The order in which kept rows are written, and their new numbers: ECMA-335 II.22 for the tables that are sorted,
-- II.24.2.6 for the numbers by which they are.
use Rattle.std.specs.Prelude.{ℕ, suc, ◌+◌, ◌*◌, ◌^◌, List, [], ◌∷◌, fold, replicate, slice_set, slice_get}
use Rattle.std.specs.Prelude.{Option, Some, None, ◌==◌, ◌||◌, nat_le, if◌then◌else◌}
use Rattle.std.specs.List.{position}
use Rattle.std.specs.Option.{option_and_then, option_map, option_map_or, unwrap_or}
use Rattle.cil_base.specs.Token.{Token}
use Rattle.md_schema.specs.CodedKind.{tables_of, tag_bits_of}
use Rattle.md_schema.specs.Column.{ColumnOf}
use Rattle.md_schema.specs.Entry.{column_of, holder_of}
use Rattle.md_schema.specs.Link.{link_column_of, link_table_of}
use Rattle.md_schema.specs.Reference.{is_tag_table}
use Rattle.md_schema.specs.Tables.{event_map, property_map}
use Rattle.md_schema.specs.declared.column.ColumnKind.{ColumnKind}
use Rattle.md_schema.specs.declared.column.ColumnKind.TheVariants.{Index, Coded}
use Rattle.md_schema.specs.declared.holder.Holder.{Holder}
use Rattle.md_schema.specs.declared.holder.Holder.TheVariants.{Link as Listed}
use Rattle.md_schema.specs.declared.link.Link.{Link}
use Rattle.node_model.specs.Keys.{same_token}
use Rattle.node_model.specs.RowTexts.{token_named}
use Rattle.node_model.specs.declared.key.Key.{Key}
use Rattle.node_model.specs.declared.key.Key.TheVariants.{Row}
use Rattle.node_model.specs.declared.value.Value.{Value}
use Rattle.node_model.specs.declared.value.Value.TheVariants as values
use Rattle.write_plan.specs.GraphWalk.{rows_of_table, walk_tables}

-- an item before the first that has a greater number or the same
abbrev pub insert_by : {X : Type 0} → (X → ℕ) → X → List X → List X
insert_by number x [] = x ∷ []
insert_by number x (y ∷ ys) =
    if nat_le (number x) (number y) then x ∷ (y ∷ ys) else y ∷ insert_by number x ys

-- in rising order of their numbers; items of one number keep their order
abbrev pub sorted_by : {X : Type 0} → (X → ℕ) → List X → List X
sorted_by number [] = []
sorted_by number (x ∷ xs) = insert_by number x (sorted_by number xs)

-- the rows of a table in a list by table
abbrev pub rows_in : List (List Token) → ℕ → List Token
rows_in lists table = unwrap_or (slice_get lists table) []

-- a row has its place in its table's list for a number, counted from 1
abbrev pub token_renumbered : List (List Token) → Token → Option Token
token_renumbered lists t =
    option_map (λ (place : ℕ). record { table = t.table; rid = suc place })
    (position (same_token t) (rows_in lists t.table))

-- the token by its new number; any other stays as it is, as the root does
abbrev pub new_token : List (List Token) → Token → Token
new_token lists t = unwrap_or (token_renumbered lists t) t

-- the number that is written of a token in a column that names rows
abbrev pub reference_number : ColumnKind → Token → ℕ
reference_number (Index table) t = t.rid
reference_number (Coded kind) t =
    t.rid * 2 ^ tag_bits_of kind + unwrap_or (position (is_tag_table t.table) (tables_of kind)) 0
reference_number _ t = 0

abbrev pub listed_by : Holder → Option Link
listed_by (Listed link) = Some link
listed_by _ = None

-- the link by whose column the rows of a table are sorted; rows of EventMap and PropertyMap keep the order of their
-- types, and those of other tables belong to no row by a link
unfoldable pub sort_link : ℕ → Option Link
sort_link table =
    if (table == event_map) || (table == property_map) then None else option_and_then listed_by (holder_of table)

-- the number of the row that a row names in a column, by the numbers that are given so far
abbrev pub named_number : List (List Token) → ColumnOf → Option Value → ℕ
named_number lists column (Some (values.Row row)) =
    option_map_or (λ t. reference_number column.kind (new_token lists t)) (token_named column.name row) 0
named_number lists column _ = 0

unfoldable pub link_number : (Key → Option Value) → List (List Token) → Link → Token → ℕ
link_number value lists link t =
    option_map_or (λ column. named_number lists column (value (Row t)))
    (column_of (link_table_of link) (link_column_of link)) 0

-- the kept rows of a table in the order in which they are written, by the numbers that are given so far
abbrev pub in_link_order : (Key → Option Value) → List (List Token) → ℕ → List Token → List Token
in_link_order value lists table rows =
    option_map_or (λ link. sorted_by (link_number value lists link) rows) (sort_link table) rows

-- the list of one table more
abbrev pub table_written : (Key → Option Value) → List Token → List (List Token) → ℕ → List (List Token)
table_written value rows lists table =
    slice_set lists table (in_link_order value lists table (rows_of_table table rows))

-- the lists of all tables, by their numbers. A table stands in the walk behind those that its link column names
unfoldable pub written_lists : (Key → Option Value) → List Token → List (List Token)
written_lists value rows = fold (table_written value rows) (replicate 256 []) walk_tables
