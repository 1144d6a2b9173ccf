use Rattle.std.proofs.Common.{◌≡◌, drop}
use Rattle.std.specs.List.{find}
use Rattle.write_plan.specs.Unfit.{is_unfit_method}
use Rattle.write_plan.specs.inner.Taken.{value_kept}
use Rattle.write_plan.proofs.unfit.unfit_method.Given as goal

abbrev pub invariant-loop-row : goal.invariant-loop-row
invariant-loop-row l = find (is_unfit_method (value_kept l.kept)) (drop l.row-index l.rows) ≡ find (is_unfit_method (value_kept l.kept)) l.rows
