use Rattle.std.proofs.Common.{◌≤◌, slice_index, take, sym, subst}
use Rattle.md_write.proofs.WriteLemmas.{widths-narrow}
use Rattle.md_write.proofs.rows.widths.Goals as goal

pub returns-clause-few : goal.returns-clause-few
returns-clause-few c =
    let columns = take c.loop-column.column-index c.args.columns.now in
    λ place. subst (λ ws. slice_index ws place ≤ 4) (sym c.loop-column.invariant) (widths-narrow c.args.counts.now columns place)
