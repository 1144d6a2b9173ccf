use Rattle.std.proofs.Common.{◌≡◌}
use Rattle.md_schema.specs.Column.{seen_columns}
use Rattle.graph_edits.specs.inner.CellsLeft.{cell_columns_from}
use Rattle.graph_edits.proofs.placed_cells.next_cell_column.Given as goal

abbrev pub invariant-loop-number : goal.invariant-loop-number
invariant-loop-number l = cell_columns_from l.from (seen_columns l.columns) ≡ cell_columns_from l.number (seen_columns l.columns)
