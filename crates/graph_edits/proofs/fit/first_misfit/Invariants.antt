use Rattle.std.proofs.Common.{◌≡◌, drop}
use Rattle.md_schema.specs.Column.{seen_columns}
use Rattle.node_model.specs.ColumnFit.{first_misfit}
use Rattle.graph_edits.specs.inner.CellsLeft.{cell_columns_from}
use Rattle.graph_edits.proofs.FitLemmas.{misfit_from}
use Rattle.graph_edits.proofs.fit.first_misfit.Given as goal

abbrev pub invariant-loop-place : goal.invariant-loop-place
invariant-loop-place l =
    first_misfit l.table l.cells ≡ misfit_from l.place l.table (cell_columns_from l.from (seen_columns l.columns)) (drop l.place l.cells)
