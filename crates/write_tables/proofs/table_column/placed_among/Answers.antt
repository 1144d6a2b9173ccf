use Rattle.std.proofs.Common.{◌∙◌, ap, arith, map}
use Rattle.std.specs.List.{enumerate_from}
use Rattle.std.proofs.lemmas.List.{length-map, take_all}
use Rattle.std.proofs.lemmas.List.FromFn.{length-enumerate_from}
use Rattle.md_schema.specs.Column.{seen_column, seen_columns}
use Rattle.write_tables.specs.inner.PlacedColumns.{placed_column}
use Rattle.write_tables.proofs.ColumnLemmas.{columns_more}
use Rattle.write_tables.proofs.table_column.placed_among.Goals as goal

pub loop-number-preserved : goal.loop-number-preserved
loop-number-preserved c =
    columns_more c.args.plan.now c.args.placed.now c.args.table c.args.columns.now c.loop-number.number _ c.cell_place-cell.result c.in_ok-numbers.numbers
    c.loop-number.all c.push.new.self (omega arith) c.cell_place-cell.ensures c.in_ok-numbers.ensures c.in_ok-push.ensures.ok c.loop-number.invariant

pub returns : goal.returns
returns c =
    let seen = seen_columns c.args.columns.now in
    c.loop-number.invariant
    ∙ ap (map (placed_column c.args.plan.now c.args.placed.now c.args.table seen))
    (take_all c.loop-number.number (enumerate_from 0 seen)
    (omega (arith, length-enumerate_from 0 seen, length-map c.args.columns.now seen_column)))
