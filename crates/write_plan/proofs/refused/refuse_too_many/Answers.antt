use Rattle.std.proofs.Common.{refl, sym, rules}
use Rattle.std.specs.List.{range_with_len}
use Rattle.node_model.specs.EditRefusals.{first_made}
use Rattle.write_plan.specs.Refusals.{too_many}
use Rattle.write_plan.specs.inner.Taken.{value_kept}
use Rattle.write_plan.proofs.KeptLemmas.{refused_to}
use Rattle.write_plan.proofs.ScanLemmas.{number_of_range, range_long, scan_here, scan_next}
use Rattle.write_plan.proofs.refused.refuse_too_many.Goals as goal

pub returns-in-Err : goal.returns-in-Err
returns-in-Err c =
    refused_to ((too_many (value_kept c.args.kept.now) c.args.rows.now) c.loop-table.table) (first_made (too_many (value_kept c.args.kept.now) c.args.rows.now) (range_with_len 0 64)) c.in-Err.refusal
    (λ h. sym (scan_here (first_made (too_many (value_kept c.args.kept.now) c.args.rows.now)) (too_many (value_kept c.args.kept.now) c.args.rows.now) (λ x xs. refl) (range_with_len 0 64) c.loop-table.table c.loop-table.table c.in-Err.refusal (range_long 64 c.loop-table.table (search rules)) (number_of_range 64 c.loop-table.table (search rules)) c.loop-table.invariant h))
    c.in-Err.ensures

pub loop-table-preserved : goal.loop-table-preserved
loop-table-preserved c =
    scan_next (first_made (too_many (value_kept c.args.kept.now) c.args.rows.now)) (too_many (value_kept c.args.kept.now) c.args.rows.now) (λ x xs. refl) (range_with_len 0 64) c.loop-table.table c.loop-table.table (range_long 64 c.loop-table.table (search rules)) (number_of_range 64 c.loop-table.table (search rules)) c.loop-table.invariant
    c.in_default.ensures
