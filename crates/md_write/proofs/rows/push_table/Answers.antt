use Rattle.std.proofs.Common.{◌≡◌, ◌++◌, length, refl, rules, sym, ap, ◌∙◌}
use Rattle.std.proofs.lemmas.Option.{slice_get_read}
use Rattle.md_write.specs.inner.Widths.{bytes_in_widths}
use Rattle.md_write.proofs.WriteLemmas.{as-wide, next-row}
use Rattle.md_write.proofs.rows.push_table.Goals as goal

pub push_row-requires-clause-same : goal.push_row-requires-clause-same
push_row-requires-clause-same c =
    let rows = c.args.rows.now in
    let row = c.row-item.result in
    let given : c.as_slice.result.now ≡ c.in_ok-widths.widths = search rules in
    let is = c.requires c.loop-row.row-index row (slice_get_read rows (length rows) c.loop-row.row-index row refl c.loop-row-test.true c.row-item.is) in
    ap length c.as_slice-in-loop-row.ensures ∙ as-wide c.args.counts.now c.args.table c.columns_at.result.now row c.columns_at.ensures is
    ∙ ap length (sym (given ∙ c.in_ok-widths.ensures.widths))

pub loop-row-preserved : goal.loop-row-preserved
loop-row-preserved c =
    let given : c.as_slice.result.now ≡ c.in_ok-widths.widths = search rules in
    let widths = c.as_slice.result.now in
    next-row c.args.out.now c.loop-row.out c.push_row.new.out c.args.counts.now c.args.table c.columns_at.result.now c.args.rows.now c.loop-row.row-index widths c.row-item.result
    c.loop-row-test.true c.row-item.is c.columns_at.ensures (given ∙ c.in_ok-widths.ensures.widths) c.loop-row.invariant
    (c.in_ok-push_row.ensures ∙ ap (λ r. c.loop-row.out ++ bytes_in_widths widths r) c.as_slice-in-loop-row.ensures)
