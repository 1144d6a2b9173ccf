-- What a key holds it also holds where there are more rows.
use Rattle.std.proofs.Common.{◌≡◌, refl, ℕ, ◌≤◌, true, List, [], ◌∷◌}
use Rattle.std.specs.List.{AllByRecursion}
use Rattle.cil_base.specs.Token.{Token}
use Rattle.md_schema.specs.Link.{link_table_of}
use Rattle.md_schema.specs.declared.column.ColumnKind.{ColumnKind}
use Rattle.node_model.specs.Nodes.{Nodes}
use Rattle.node_model.specs.declared.cell.Cell.{Cell}
use Rattle.node_model.specs.declared.cell.Cell.TheVariants as cells
use Rattle.node_model.specs.declared.key.Key.{Key}
use Rattle.node_model.specs.declared.key.Key.TheVariants.{Row, Sig, Owned, Linked, Body, Data, Resource, Facts}
use Rattle.node_model.specs.declared.value.Value.{Value}
use Rattle.node_model.specs.declared.value.Value.TheVariants as values
use Rattle.node_model.proofs.RowLemmas.{row_stays}
use Rattle.graph_facts.specs.HoldsValue.{HoldsValue, IsRowOfTable, ListsRows}
use Rattle.graph_facts.specs.RowHolds.{CellWithin, HoldsCell, HoldsCells}
use Rattle.graph_facts.proofs.ColumnLemmas.{Placed}
use Rattle.graph_facts.proofs.ItemLemmas.{all_map}

abbrev pub HasMore : Nodes → Nodes → Type 0
HasMore n more = (table : ℕ) → n.rows table ≤ more.rows table

within_grows : (n more : Nodes) (kind : ColumnKind) (cell : Cell) → HasMore n more → CellWithin n kind cell → CellWithin more kind cell
within_grows n more kind (cells.Num number) grown h = h
within_grows n more kind (cells.Text text) grown h = h
within_grows n more kind (cells.Guid bytes) grown h = h
within_grows n more kind cells.NoGuid grown h = h
within_grows n more kind (cells.Blob bytes) grown h = h
within_grows n more kind (cells.Ref t) grown h = record { allowed = h.allowed; there = row_stays n.rows more.rows t (grown t.table) h.there }
within_grows n more kind cells.NoRef grown h = h

pub cells_grow : (n more : Nodes) (columns : List Placed) (cs : List Cell) → HasMore n more → HoldsCells n columns cs → HoldsCells more columns cs
cells_grow n more [] cs grown h = h
cells_grow n more (c ∷ columns) [] grown h = absurd h
cells_grow n more (c ∷ columns) (x ∷ cs) grown h = (record { fits = h.0.fits; within = within_grows n more c.1.kind x grown h.0.within }, cells_grow n more columns cs grown h.1)

row_grows : (n more : Nodes) (table : ℕ) → HasMore n more → (t : Token) → IsRowOfTable n table t → IsRowOfTable more table t
row_grows n more table grown t h = record { table_is = h.table_is; there = row_stays n.rows more.rows t (grown t.table) h.there }

pub all_grow : (n more : Nodes) (table : ℕ) (ts : List Token) → HasMore n more → AllByRecursion (IsRowOfTable n table) ts → AllByRecursion (IsRowOfTable more table) ts
all_grow n more table ts grown all = all_map (IsRowOfTable n table) (IsRowOfTable more table) (row_grows n more table grown) ts all

list_grows : (n more : Nodes) (table : ℕ) (ts : List Token) → HasMore n more → ListsRows n table ts → ListsRows more table ts
list_grows n more table ts grown h = record { rows = all_grow n more table ts grown h.rows; once = h.once }

pub holds_more : (n more : Nodes) (k : Key) (v : Value) → HasMore n more → HoldsValue n k v → HoldsValue more k v
holds_more n more (Row t) (values.Row row) grown h = record { token = h.token; cells = cells_grow n more _ row.cells grown h.cells }
holds_more n more (Sig t) (values.Sig sig) grown h = h
holds_more n more (Owned t table) (values.Tokens ts) grown h = list_grows n more table ts grown h
holds_more n more (Linked t l) (values.Tokens ts) grown h = list_grows n more (link_table_of l) ts grown h
holds_more n more (Body t) (values.Body body) grown h = h
holds_more n more (Data t) (values.Data bytes) grown h = tt
holds_more n more (Resource t) (values.Resource value) grown h = h
holds_more n more Facts (values.Facts facts) grown h = h
holds_more n more _ _ grown h = absurd h
