use Rattle.std.proofs.Common.{sym, ◌∙◌, ap, ◌+◌, drop, Ok, rules}
use Rattle.node_model.specs.RowNames.{live_members}
use Rattle.node_model.specs.TypeViews.{row_walk}
use Rattle.node_model.specs.Walk.{each_walk, said, then_said}
use Rattle.node_model.proofs.SayLemmas.{after}
use Rattle.graph_query.specs.Answered.{nodes_asked, slots_asked}
use Rattle.graph_query.proofs.MemberLemmas.{item_at, member_more, passed_over}
use Rattle.graph_query.proofs.views.live_rows.Goals.{then-is_member+in_ok-row_part+in_ok-copy+in_ok-push, else-is_member}
use Rattle.graph_query.proofs.views.live_rows.Goals as goal

pub loop-token-preserved : goal.loop-token-preserved
loop-token-preserved c =
    let n = nodes_asked c.args.graph.now in
    let p = slots_asked c.args.graph.now in
    let ts = c.args.tokens.now in
    let i = c.loop-token.token-index in
    let t = c.token-item.result in
    let rest = drop (i + 1) ts in
    let front = c.loop-token.rows in
    let whole = ap (λ xs. after front (said p (each_walk row_walk (live_members n c.args.table xs)))) (sym (item_at ts i t (search rules) c.token-item.is)) ∙ c.loop-token.invariant in
    elim c.if-is_member.branch [
      | then-is_member+in_ok-row_part+in_ok-copy+in_ok-push w ↦ ap (λ rows. after rows (said p (each_walk row_walk (live_members n c.args.table rest)))) (w.rows-is ∙ w.in_ok-push.ensures.ok)
          ∙ sym (member_more p n c.args.table row_walk t rest front w.in_ok-copy.field-0 (sym c.is_member.ensures ∙ w.if-is_member.true)
          (ap (λ s. then_said s (λ row. Ok row)) w.in_ok-row_part.ensures ∙ ap Ok (sym w.in_ok-copy.ensures))) ∙ whole
      | else-is_member w ↦ ap (λ rows. after rows (said p (each_walk row_walk (live_members n c.args.table rest)))) w.rows-is
          ∙ sym (ap (λ ms. after front (said p (each_walk row_walk ms))) (passed_over n c.args.table t rest (sym c.is_member.ensures ∙ w.if-is_member.false))) ∙ whole
    ]
