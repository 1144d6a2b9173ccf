use Rattle.std.proofs.Common.{sym, ◌∙◌, ap, ◌+◌, drop, rules}
use Rattle.node_model.specs.RowNames.{live_members}
use Rattle.node_model.specs.TypeViews.{row_walk}
use Rattle.node_model.specs.Walk.{each_walk, said}
use Rattle.graph_query.specs.Answered.{nodes_asked, slots_asked}
use Rattle.graph_query.specs.inner.Halts.{halt_of}
use Rattle.graph_query.proofs.HaltLemmas.{member_free}
use Rattle.graph_query.proofs.MemberLemmas.{item_at, passed_over}
use Rattle.graph_query.proofs.halts.rows_halt.Goals.{then-is_member+in_default, else-is_member}
use Rattle.graph_query.proofs.halts.rows_halt.Goals as goal

pub loop-token-preserved : goal.loop-token-preserved
loop-token-preserved c =
    let n = nodes_asked c.args.graph.now in
    let p = slots_asked c.args.graph.now in
    let ts = c.args.tokens.now in
    let i = c.loop-token.token-index in
    let t = c.token-item.result in
    let rest = drop (i + 1) ts in
    let whole = ap (λ xs. halt_of (said p (each_walk row_walk (live_members n c.args.table xs)))) (sym (item_at ts i t (search rules) c.token-item.is)) ∙ c.loop-token.invariant in
    elim c.if-is_member.branch [
      | then-is_member+in_default w ↦ sym (member_free p n c.args.table t rest (sym c.is_member.ensures ∙ w.if-is_member.true) (sym w.in_default.ensures)) ∙ whole
      | else-is_member w ↦ sym (ap (λ ms. halt_of (said p (each_walk row_walk ms))) (passed_over n c.args.table t rest (sym c.is_member.ensures ∙ w.if-is_member.false))) ∙ whole
    ]
