use Rattle.std.proofs.Common.{sym, ◌∙◌, arith}
use Rattle.graph_edits.proofs.CellLemmas.{column_here, column_passed}
use Rattle.graph_edits.proofs.placed_cells.next_cell_column.Goals as goal

pub returns-then-is_cell-clause-first : goal.returns-then-is_cell-clause-first
returns-then-is_cell-clause-first c =
    c.loop-number.invariant ∙ column_here c.args.columns.now c.loop-number.number _ (omega arith) (sym c.is_cell.ensures ∙ c.if-is_cell.true)

pub loop-number-preserved : goal.loop-number-preserved
loop-number-preserved c =
    c.loop-number.invariant ∙ column_passed c.args.columns.now c.loop-number.number _ (omega arith) (sym c.is_cell.ensures ∙ c.if-is_cell.false)
