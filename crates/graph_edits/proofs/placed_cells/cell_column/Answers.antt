use Rattle.std.proofs.Common.{◌<◌, length, sym, ap, ◌∙◌, arith}
use Rattle.graph_edits.proofs.CellLemmas.{column_beyond, column_first, column_no_cell, column_only, numbered}
use Rattle.graph_edits.proofs.placed_cells.cell_column.Goals as goal

pub returns-then-number-columns-clause-only : goal.returns-then-number-columns-clause-only
returns-then-number-columns-clause-only c =
    sym (ap (numbered c.args.number) c.table_columns-columns.ensures)
    ∙ column_beyond c.table_columns-columns.result.now c.args.number c.if-number-columns.true

pub returns-then-is_cell-clause-only : goal.returns-then-is_cell-clause-only
returns-then-is_cell-clause-only c =
    let within : c.args.number < length c.table_columns-columns.result.now = omega arith in
    sym (ap (numbered c.args.number) c.table_columns-columns.ensures)
    ∙ column_only c.table_columns-columns.result.now c.args.number _ within (sym c.is_cell.ensures ∙ c.if-is_cell.true)

pub returns-else-is_cell-clause-only : goal.returns-else-is_cell-clause-only
returns-else-is_cell-clause-only c =
    let within : c.args.number < length c.table_columns-columns.result.now = omega arith in
    sym (ap (numbered c.args.number) c.table_columns-columns.ensures)
    ∙ column_no_cell c.table_columns-columns.result.now c.args.number _ within (sym c.is_cell.ensures ∙ c.if-is_cell.false)

pub returns-then-is_cell-clause-first : goal.returns-then-is_cell-clause-first
returns-then-is_cell-clause-first c =
    let within : c.args.number < length c.table_columns-columns.result.now = omega arith in
    column_first c.table_columns-columns.result.now _ c.args.number _ c.table_columns-columns.ensures within (sym c.is_cell.ensures ∙ c.if-is_cell.true)
