-- The cells that an edit has, each with the column that it is for: ECMA-335 II.22.
use Rattle.std.specs.Prelude.{ℕ, List, [], map, ◌==◌}
use Rattle.std.specs.List.{filter, zip}
use Rattle.md_schema.specs.Column.{ColumnOf}
use Rattle.md_schema.specs.declared.column.ColumnKind.{ColumnKind}
use Rattle.node_model.specs.RowFaults.{cell_columns}
use Rattle.node_model.specs.declared.cell.Cell.{Cell}
use Rattle.node_model.specs.declared.edit.Edit.{Edit}
use Rattle.node_model.specs.declared.edit.Edit.TheVariants as edits

-- a cell for a column of a table
pub record PlacedCell : Type 0 where
  pub table : ℕ
  pub column : ℕ
  pub kind : ColumnKind
  pub cell : Cell

abbrev pub placed_cell : ℕ → (ℕ × ColumnOf) × Cell → PlacedCell
placed_cell table c = record { table = table; column = c.0.0; kind = c.0.1.kind; cell = c.1 }

-- the cells of a new row, as far as the table has cell columns
abbrev pub row_placed : ℕ → List Cell → List PlacedCell
row_placed table cells = map (placed_cell table) (zip (cell_columns table) cells)

-- a cell for one column, if that is a cell column
abbrev pub set_placed : ℕ → ℕ → Cell → List PlacedCell
set_placed table column cell =
    map (λ c. placed_cell table (c, cell)) (filter (λ c. c.0 == column) (cell_columns table))

abbrev pub edit_cells : Edit → List PlacedCell
edit_cells (edits.Set t column cell) = set_placed t.table column cell
edit_cells (edits.Add table cells sig) = row_placed table cells
edit_cells (edits.Insert owner table at cells sig) = row_placed table cells
edit_cells _ = []
