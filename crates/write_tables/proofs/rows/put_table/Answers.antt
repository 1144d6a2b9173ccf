use Rattle.std.proofs.Common.{◌∙◌}
use Rattle.write_tables.proofs.ColumnLemmas.{table_gathers}
use Rattle.write_tables.proofs.rows.put_table.Goals as goal

pub returns : goal.returns
returns c =
    table_gathers c.args.plan.now c.args.placed.now c.args.table c.as_slice.result.now c.as_slice-2.result.now c.args.heaps.now c.put_rows.new.heaps
    c.in_ok-numbers.numbers (c.as_slice.ensures ∙ c.in_ok-columns.ensures) (c.as_slice-2.ensures ∙ c.kept-rows.ensures) c.in_ok-numbers.ensures
