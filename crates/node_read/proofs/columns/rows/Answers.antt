use Rattle.std.proofs.Common.{◌∙◌, arith}
use Rattle.md_tables.proofs.CellLemmas.{few_rows}
use Rattle.md_tables.proofs.LinksLemmas.{table_row_count-is}
use Rattle.node_read.proofs.columns.rows.Goals as goal

pub returns-clause-count : goal.returns-clause-count
returns-clause-count c = c.rows.ensures ∙ table_row_count-is c.args.streams.now.tables.now c.args.streams.now.head.now c.args.table c.args.streams.now.opened

pub returns-clause-few : goal.returns-clause-few
returns-clause-few c =
    let few = few_rows c.args.streams.now.tables.now c.args.streams.now.head.now c.args.table c.args.streams.now.opened in
    omega (arith, few, c.rows.ensures)
