use Rattle.std.proofs.Common.{◌≡◌, [], replicate}
use Rattle.write_plan.proofs.kept_rows.no_rows.Given as goal

abbrev pub invariant-loop-table : goal.invariant-loop-table
invariant-loop-table l = l.tables.items ≡ replicate l._table []
