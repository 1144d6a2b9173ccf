use Rattle.std.proofs.Common.{◌≡◌, drop}
use Rattle.std.specs.List.{range_with_len}
use Rattle.node_model.specs.EditRefusals.{first_made}
use Rattle.write_plan.specs.Refusals.{too_many}
use Rattle.write_plan.specs.inner.Taken.{value_kept}
use Rattle.write_plan.proofs.refused.refuse_too_many.Given as goal

abbrev pub invariant-loop-table : goal.invariant-loop-table
invariant-loop-table l =
    first_made (too_many (value_kept l.kept) l.rows) (drop l.table (range_with_len 0 64)) ≡ first_made (too_many (value_kept l.kept) l.rows) (range_with_len 0 64)
