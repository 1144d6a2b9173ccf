use Rattle.std.proofs.Common.{◌≡◌, [], replicate}
use Rattle.write_plan.proofs.writing.no_lists.Given as goal

abbrev pub invariant-loop-table : goal.invariant-loop-table
invariant-loop-table l = l.lists ≡ replicate l._table []
