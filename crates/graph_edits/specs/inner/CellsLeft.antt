-- The cells of an edit that are still to be looked at. No public contract cites these words.
use Rattle.std.specs.Prelude.{ℕ, List, drop, map}
use Rattle.std.specs.List.{enumerate_from, filter, zip}
use Rattle.md_schema.specs.Column.{ColumnOf, is_cell_kind, seen_columns}
use Rattle.node_model.specs.PlacedCells.{PlacedCell, placed_cell}
use Rattle.graph_edits.specs.declared.placed_cells.CellsLeft.{CellsLeft}
use Rattle.graph_edits.specs.declared.placed_cells.ColumnCell.{ColumnCell}

abbrev pub seen_placed : ColumnCell → PlacedCell
seen_placed p = record { table = p.table; column = p.column; kind = p.kind; cell = p.cell.now }

-- the cell columns from a number on
abbrev pub cell_columns_from : ℕ → List ColumnOf → List (ℕ × ColumnOf)
cell_columns_from number columns =
    filter (λ c. is_cell_kind c.1.kind) (enumerate_from number (drop number columns))

abbrev pub cells_left : CellsLeft → List PlacedCell
cells_left left =
    map (placed_cell left.table)
    (zip (cell_columns_from left.number (seen_columns left.columns.now)) left.cells.now)
