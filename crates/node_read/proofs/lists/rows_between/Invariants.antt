use Rattle.std.proofs.Common.{◌≡◌}
use Rattle.node_model.specs.Lists.{rows_between}
use Rattle.node_read.proofs.lists.rows_between.Given as goal

abbrev pub invariant-loop-rid : goal.invariant-loop-rid
invariant-loop-rid l = l.tokens ≡ rows_between l.table (l.first, l.rid)
