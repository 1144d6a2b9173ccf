use Rattle.std.proofs.Common.{sym, arith}
use Rattle.node_read.proofs.ListLemmas.{few_counted, run_bounds}
use Rattle.node_read.proofs.lists.run_slot.Goals as goal

pub rows_between-requires-clause-rises : goal.rows_between-requires-clause-rises
rows_between-requires-clause-rises c = (run_bounds c.args.streams.now.tables.now c.args.owner c.args.table c.in-Some.found (sym c.in-Some.ensures)).0

pub rows_between-requires-clause-few : goal.rows_between-requires-clause-few
rows_between-requires-clause-few c = λ less.
    let few = few_counted c.args.streams.now.tables.now c.args.streams.now.head.now c.args.table c.args.streams.now.opened in
    let bound = (run_bounds c.args.streams.now.tables.now c.args.owner c.args.table c.in-Some.found (sym c.in-Some.ensures)).1 less in
    omega (arith, few, bound)
