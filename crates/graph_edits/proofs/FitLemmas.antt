-- The first cell that does not fit, and how many cell columns there are.
use Rattle.std.proofs.Common.{◌≡◌, ℕ, ◌+◌, ◌≤◌, List, [], ◌∷◌, true, false, not, cond, Option, None, map, drop, length, refl, sym, ap, ◌∙◌, arith}
use Rattle.std.specs.List.{count_by, enumerate_from, filter, position_from, zip}
use Rattle.std.proofs.lemmas.Iterator.Adapters.{position_from-zero}
use Rattle.std.proofs.lemmas.List.{drop_all}
use Rattle.std.proofs.lemmas.List.Sums.{sum_by-cons}
use Rattle.md_schema.specs.Column.{ColumnOf, is_cell_kind, seen_column, seen_columns}
use Rattle.md_schema.specs.declared.column.Column.{Column}
use Rattle.node_model.specs.ColumnFit.{cell_fits, first_misfit}
use Rattle.node_model.specs.KeyKinds.{table_columns}
use Rattle.node_model.specs.PlacedCells.{PlacedCell, placed_cell, row_placed}
use Rattle.node_model.specs.declared.cell.Cell.{Cell}
use Rattle.graph_edits.specs.inner.CellsLeft.{cell_columns_from}
use Rattle.graph_edits.proofs.CellLemmas.{zip_none}

-- the place of the first of these cells that does not fit, where they stand from a place on
abbrev pub misfit_from : ℕ → ℕ → List (ℕ × ColumnOf) → List Cell → Option ℕ
misfit_from place table columns cells = position_from (λ c. not (cell_fits c.kind c.cell)) place (map (placed_cell table) (zip columns cells))

pub misfit_begins : (table : ℕ) (columns : List ColumnOf) (cells : List Cell) → columns ≡ table_columns table
    → first_misfit table cells ≡ misfit_from 0 table (cell_columns_from 0 columns) cells
misfit_begins table columns cells are =
    position_from-zero (λ (c : PlacedCell). not (cell_fits c.kind c.cell)) (row_placed table cells)
    ∙ ap (λ cs. misfit_from 0 table (cell_columns_from 0 cs) cells) (sym are)

pub misfit_ends : (place table : ℕ) (columns : List (ℕ × ColumnOf)) (cells : List Cell) → length cells ≤ place → misfit_from place table columns (drop place cells) ≡ None
misfit_ends place table columns cells past =
    ap (misfit_from place table columns) (drop_all place cells past)
    ∙ ap (λ xs. position_from (λ (c : PlacedCell). not (cell_fits c.kind c.cell)) place (map (placed_cell table) xs)) (zip_none columns)

-- as many as there are columns that are cells
pub columns_counted : (columns : List Column) (n : ℕ)
    → length (filter (λ (c : ℕ × ColumnOf). is_cell_kind c.1.kind) (enumerate_from n (seen_columns columns))) ≡ count_by (λ (column : Column). is_cell_kind column.kind) columns
columns_counted [] n = refl
columns_counted (c ∷ columns) n =
    let others = filter (λ (c : ℕ × ColumnOf). is_cell_kind c.1.kind) (enumerate_from (n + 1) (seen_columns columns)) in
    let count = count_by (λ (column : Column). is_cell_kind column.kind) columns in
    let rest : length others ≡ count = columns_counted columns (n + 1) in
    let step : length (cond (is_cell_kind c.kind) ((n, seen_column c) ∷ others) others) ≡ cond (is_cell_kind c.kind) 1 0 + count =
    elim (is_cell_kind c.kind) as (λ b. length (cond b ((n, seen_column c) ∷ others) others) ≡ cond b 1 0 + count) [
      | true ↦ omega arith
      | false ↦ omega arith
    ] in
    step ∙ sym (sum_by-cons (λ (column : Column). cond (is_cell_kind column.kind) 1 0) c columns)
