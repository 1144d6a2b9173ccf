use Rattle.std.proofs.Common.{◌∙◌, sym, rules}
use Rattle.std.specs.List.{find}
use Rattle.write_plan.specs.Unfit.{is_unfit_method}
use Rattle.write_plan.specs.inner.Taken.{value_kept}
use Rattle.write_plan.proofs.ScanLemmas.{find_step, is_not_passed, is_passed, passed, scan_here, scan_next}
use Rattle.write_plan.proofs.unfit.unfit_method.Goals as goal

pub returns-then-is_unfit_method : goal.returns-then-is_unfit_method
returns-then-is_unfit_method c =
    scan_here (find (is_unfit_method (value_kept c.args.kept.now))) (passed (is_unfit_method (value_kept c.args.kept.now))) (find_step (is_unfit_method (value_kept c.args.kept.now))) c.args.rows.now c.loop-row.row-index c.row-item.result c.row-item.result (search rules) c.row-item.is c.loop-row.invariant
    (is_passed (is_unfit_method (value_kept c.args.kept.now)) c.row-item.result (sym c.is_unfit_method.ensures ∙ c.if-is_unfit_method.true))

pub loop-row-preserved : goal.loop-row-preserved
loop-row-preserved c =
    scan_next (find (is_unfit_method (value_kept c.args.kept.now))) (passed (is_unfit_method (value_kept c.args.kept.now))) (find_step (is_unfit_method (value_kept c.args.kept.now))) c.args.rows.now c.loop-row.row-index c.row-item.result (search rules) c.row-item.is c.loop-row.invariant
    (is_not_passed (is_unfit_method (value_kept c.args.kept.now)) c.row-item.result (sym c.is_unfit_method.ensures ∙ c.if-is_unfit_method.false))
