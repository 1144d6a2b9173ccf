use Rattle.std.proofs.Common.{arith}
use Rattle.md_tables.proofs.CellLemmas.{few_rows}
use Rattle.md_tables.proofs.tables.Tables.range.Goals as goal

pub as_run-requires : goal.as_run-requires
as_run-requires c = let few = few_rows c.args.stream.now c.args.self.now c.args.table c.requires.opened in omega (arith, few, c.rows.ensures)
