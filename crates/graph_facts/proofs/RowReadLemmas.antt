-- A row that is read has a cell within its column's bounds for each cell column: ECMA-335 II.22.
use Rattle.std.proofs.Common.{◌≡◌, ◌∙◌, refl, sym, ap, subst, ℕ, suc, ◌+◌, ◌<◌, ◌≤◌, Bool, true, false, cond, List, [], ◌∷◌, ◌++◌, Option, Some, None, find, arith}
use Rattle.std.specs.Prelude.{slice_get, is_none}
use Rattle.std.specs.List.{AllByRecursion, enumerate_from, filter, flat_map}
use Rattle.std.specs.Option.{option_and_then, option_map, option_map_or, unwrap_or}
use Rattle.cil_base.specs.Place.{number_at}
use Rattle.cil_base.specs.Token.{Token}
use Rattle.md_schema.specs.Cell.{cell_of, place_of, read_width}
use Rattle.md_schema.specs.Column.{ColumnOf, is_cell_kind}
use Rattle.md_schema.specs.Entry.{column_of, columns_of}
use Rattle.md_schema.specs.Layout.{head_of}
use Rattle.md_schema.specs.declared.column.ColumnKind.{ColumnKind}
use Rattle.md_schema.specs.declared.column.ColumnKind.TheVariants.{U8Pad, U16, U32}
use Rattle.md_schema.specs.declared.column_width.Counts.{Counts}
use Rattle.node_model.specs.EditRefusals.{greatest_number}
use Rattle.node_model.specs.Nodes.{Nodes}
use Rattle.node_model.specs.RowFaults.{cell_at, cell_columns, row_fault}
use Rattle.node_model.specs.Rows.{listed_cell, read_row, row_cells, row_slot}
use Rattle.node_model.specs.Streams.{ImageStreams}
use Rattle.node_model.specs.declared.cell.Cell.{Cell}
use Rattle.node_model.specs.declared.key.Key.TheVariants.{Row}
use Rattle.node_model.specs.declared.slot.Slot.TheVariants as slots
use Rattle.node_model.specs.declared.value.RowValue.{RowValue}
use Rattle.node_model.specs.declared.value.Value.{Value}
use Rattle.node_model.specs.declared.value.Value.TheVariants as values
use Rattle.node_model.proofs.EarlyLemmas.{map_none}
use Rattle.graph_facts.specs.HoldsValue.{HoldsValue}
use Rattle.graph_facts.specs.OfTypes.{AreBytes}
use Rattle.graph_facts.specs.RowHolds.{HoldsCells, HoldsRow}
use Rattle.graph_facts.proofs.ByteLemmas.{number_below}
use Rattle.graph_facts.proofs.CellReadLemmas.{SameRows, said_holds}
use Rattle.graph_facts.proofs.ItemLemmas.{all_filter, all_map}

abbrev PlacedAt : ℕ → List ColumnOf → ℕ × ColumnOf → Type 0
PlacedAt k columns c = (i : ℕ) × (c.0 ≡ k + i) × (slice_get columns i ≡ Some c.1)

placed_columns : (k : ℕ) (columns : List ColumnOf) → AllByRecursion (PlacedAt k columns) (enumerate_from k columns)
placed_columns k [] = tt
placed_columns k (x ∷ xs) =
    ((0, omega arith, refl), all_map (PlacedAt (k + 1) xs) (PlacedAt k (x ∷ xs)) (λ c h. (suc h.0, omega (arith, h.1), h.2)) (enumerate_from (k + 1) xs) (placed_columns (k + 1) xs))

-- the column with its number is one of the table
abbrev pub IsColumn : ℕ → ℕ × ColumnOf → Type 0
IsColumn table c = column_of table c.0 ≡ Some c.1

pub cell_columns_are : (table : ℕ) → AllByRecursion (IsColumn table) (cell_columns table)
cell_columns_are table = by (columns_of table)
  where
    by : (o : Option (List ColumnOf))
        → AllByRecursion (λ (c : ℕ × ColumnOf). option_and_then (λ columns. slice_get columns c.0) o ≡ Some c.1) (filter (λ (c : ℕ × ColumnOf). is_cell_kind c.1.kind) (enumerate_from 0 (unwrap_or o [])))
    by None = tt
    by (Some columns) =
        all_filter (λ (c : ℕ × ColumnOf). slice_get columns c.0 ≡ Some c.1) (λ (c : ℕ × ColumnOf). is_cell_kind c.1.kind) (enumerate_from 0 columns)
        (all_map (PlacedAt 0 columns) (λ (c : ℕ × ColumnOf). slice_get columns c.0 ≡ Some c.1) (λ c h. let at : c.0 ≡ h.0 = omega (arith, h.1) in ap (slice_get columns) at ∙ h.2) (enumerate_from 0 columns) (placed_columns 0 columns))

kind_below : (stream : List ℕ) (place : ℕ) (kind : ColumnKind) (counts : Counts) (limit : ℕ) → AreBytes stream → greatest_number kind ≡ Some limit → number_at stream place (read_width kind counts) ≤ limit
kind_below stream place U8Pad counts limit all e = let same : 255 ≡ limit = cc in omega (arith, number_below stream place 1 all, same)
kind_below stream place U16 counts limit all e = let same : 65535 ≡ limit = cc in omega (arith, number_below stream place 2 all, same)
kind_below stream place U32 counts limit all e = let same : 4294967295 ≡ limit = cc in omega (arith, number_below stream place 4 all, same)
kind_below stream place _ counts limit all e = absurd cc

cell_below : (stream : List ℕ) (table rid : ℕ) (c : ℕ × ColumnOf) → AreBytes stream → IsColumn table c → (limit : ℕ) → greatest_number c.1.kind ≡ Some limit → cell_of stream table rid c.0 ≤ limit
unfolding cell_of
cell_below stream table rid c all is limit e =
    let found : ColumnOf → ℕ = λ column. number_at stream (place_of (head_of stream) table rid c.0) (read_width column.kind (head_of stream).counts) in
    subst (λ o. option_map_or found o 0 ≤ limit) (sym is) (kind_below stream (place_of (head_of stream) table rid c.0) c.1.kind (head_of stream).counts limit all e)

cells_hold : (s : ImageStreams) (n : Nodes) (t : Token) (columns : List (ℕ × ColumnOf)) → SameRows s.tables n → AreBytes s.tables → AllByRecursion (IsColumn t.table) columns
    → find (λ c. is_none (cell_at s t c)) columns ≡ None → HoldsCells n columns (flat_map (λ c. listed_cell (cell_at s t c)) columns)
cells_hold s n t [] rows bytes all e = refl
cells_hold s n t (c ∷ columns) rows bytes all e = by (cell_at s t c) refl e (cells_hold s n t columns rows bytes all.1)
  where
    by : (o : Option Cell) → cell_at s t c ≡ o → cond (is_none o) (Some c) (find (λ c. is_none (cell_at s t c)) columns) ≡ None
        → (find (λ c. is_none (cell_at s t c)) columns ≡ None → HoldsCells n columns (flat_map (λ c. listed_cell (cell_at s t c)) columns))
        → HoldsCells n (c ∷ columns) (listed_cell o ++ flat_map (λ c. listed_cell (cell_at s t c)) columns)
    by None is e more = absurd cc
    by (Some cell) is e more = (said_holds s n c.1.kind (cell_of s.tables t.table t.rid c.0) cell rows (cell_below s.tables t.table t.rid c bytes all.0) is, more e)

same_value : (x y : Value) → slots.Value x ≡ slots.Value y → x ≡ y
same_value x y e = cc

pub row_holds : (s : ImageStreams) (n : Nodes) (t : Token) (v : Value) → SameRows s.tables n → AreBytes s.tables → read_row s t ≡ slots.Value v → HoldsValue n (Row t) v
unfolding read_row
row_holds s n t v rows bytes e = by (row_fault s t) refl e
  where
    by : (o : Option ℕ) → row_fault s t ≡ o → row_slot s t o ≡ slots.Value v → HoldsValue n (Row t) v
    by (Some column) is e = absurd cc
    by None is e =
        let none = map_none (λ (c : ℕ × ColumnOf). c.0) (find (λ c. is_none (cell_at s t c)) (cell_columns t.table)) is in
        let row : RowValue = record { token = t; cells = row_cells s t } in
        let held : HoldsRow n t row = record { token = refl; cells = cells_hold s n t (cell_columns t.table) rows bytes (cell_columns_are t.table) none } in
        subst (HoldsValue n (Row t)) (same_value (values.Row row) v e) held
