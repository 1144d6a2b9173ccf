use Rattle.std.proofs.Common.{◌∙◌, [], ap, arith}
use Rattle.std.proofs.lemmas.List.{get_or_read}
use Rattle.write_plan.specs.GraphWalk.{rows_of_table}
use Rattle.write_plan.proofs.kept_rows.KeptRows.of_table.Goals as goal

pub index-requires : goal.index-requires
index-requires c = omega (arith, c.self.invariant.count)

pub returns : goal.returns
returns c =
    get_or_read c.self.inside.tables.items c.args.table c.index.result.now (omega (arith, c.self.invariant.count)) c.index.ensures []
    ∙ c.self.invariant.rows c.args.table (omega arith) ∙ ap (rows_of_table c.args.table) c.self.view_is
