use Rattle.std.proofs.Common.{ℕ, List, map, sym, ap, ◌∙◌}
use Rattle.std.specs.List.{zip}
use Rattle.md_schema.specs.Column.{ColumnOf, seen_column}
use Rattle.node_model.specs.KeyKinds.{table_columns}
use Rattle.node_model.specs.PlacedCells.{placed_cell}
use Rattle.node_model.specs.declared.cell.Cell.{Cell}
use Rattle.graph_edits.specs.inner.CellsLeft.{cell_columns_from}
use Rattle.graph_edits.proofs.CellLemmas.{one_left}
use Rattle.graph_edits.proofs.placed_cells.set_cell.Goals as goal

pub returns-in-Some : goal.returns-in-Some
returns-in-Some c =
    let h = c.in-Some.ensures in
    let column = seen_column c.in-Some.field-0 in
    ap (λ (cs : List ColumnOf). map (placed_cell c.args.table) (zip (cell_columns_from c.args.number cs) c.from_ref.result.now)) c.table_columns.ensures
    ∙ ap (λ (xs : List Cell). map (placed_cell c.args.table) (zip (cell_columns_from c.args.number (table_columns c.args.table)) xs)) c.from_ref.ensures.value
    ∙ one_left c.args.table c.args.number column c.args.cell.now (table_columns c.args.table) h.first
    ∙ sym (ap (map (λ (x : ℕ × ColumnOf). placed_cell c.args.table (x, c.args.cell.now))) h.only)
