use Rattle.std.proofs.Common.{◌≡◌, drop}
use Rattle.md_schema.specs.Column.{seen_columns}
use Rattle.node_read.specs.inner.Cells.{cells_before, cells_from}
use Rattle.node_read.specs.inner.Opened.{streams_of}
use Rattle.node_read.proofs.row.read_cells.Given as goal

abbrev pub invariant-loop-number : goal.invariant-loop-number
invariant-loop-number l =
    cells_before l.cells (cells_from (streams_of l.streams) l.token l.number (seen_columns (drop l.number l.columns)))
    ≡ cells_from (streams_of l.streams) l.token 0 (seen_columns l.columns)
