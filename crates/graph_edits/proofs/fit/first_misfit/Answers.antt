use Rattle.std.proofs.Common.{sym, ◌∙◌}
use Rattle.md_schema.specs.Column.{seen_columns}
use Rattle.graph_edits.specs.inner.CellsLeft.{cell_columns_from}
use Rattle.graph_edits.proofs.FitLemmas.{misfit_begins, misfit_ends}
use Rattle.graph_edits.proofs.fit.first_misfit.Goals as goal

pub loop-place-init : goal.loop-place-init
loop-place-init c = misfit_begins c.args.table (seen_columns c.table_columns-columns.result.now) c.args.cells.now c.table_columns-columns.ensures

pub returns : goal.returns
returns c =
    sym (c.loop-place.invariant
    ∙ misfit_ends c.loop-place.place c.args.table (cell_columns_from c.loop-place.from (seen_columns c.table_columns-columns.result.now)) c.args.cells.now c.loop-place-test.false)
