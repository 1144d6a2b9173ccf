use Rattle.std.proofs.Common.{◌∙◌, arith, sym}
use Rattle.write_tables.proofs.ColumnLemmas.{no_place, place_there}
use Rattle.write_tables.proofs.table_column.cell_place.Goals as goal

pub returns-then-is_cell : goal.returns-then-is_cell
returns-then-is_cell c =
    place_there c.args.columns.now c.args.number _ _ c.cell_count.result c.requires (sym c.is_cell.ensures ∙ c.if-is_cell.true) (omega arith) c.cell_count.ensures

pub returns-else-is_cell : goal.returns-else-is_cell
returns-else-is_cell c = no_place c.args.columns.now c.args.number _ c.requires (sym c.is_cell.ensures ∙ c.if-is_cell.false)
