use Rattle.std.proofs.Common.{sym, ◌∙◌, ap, subst, ◌+◌, drop, Ok, cond, rules, Result}
use Rattle.node_model.specs.Parts.{Stops}
use Rattle.node_model.specs.RowNames.{live_members}
use Rattle.node_model.specs.Searches.{first_walk, member_test}
use Rattle.node_model.specs.Walk.{said, then_said}
use Rattle.node_model.specs.declared.reply.Reply.{Reply}
use Rattle.node_model.specs.declared.reply.Reply.TheVariants.{Found}
use Rattle.node_model.specs.declared.walk.Halt.{Halt}
use Rattle.graph_query.specs.Answered.{nodes_asked, slots_asked}
use Rattle.graph_query.proofs.MemberLemmas.{found_next, found_stops, item_at}
use Rattle.graph_query.proofs.searches.first_member.Goals as goal

pub returns-in-Err : goal.returns-in-Err
returns-in-Err c =
    let n = nodes_asked c.args.graph.now in
    let p = slots_asked c.args.graph.now in
    let test = member_test n c.args.member_name.now c.args.sig.now in
    let ts = c.args.tokens.now in
    let i = c.loop-token.token-index in
    let t = c.token-item.result in
    let whole = ap (λ xs. said p (first_walk test (live_members n c.args.table xs))) (sym (item_at ts i t (search rules) c.token-item.is)) ∙ c.loop-token.invariant in
    subst (λ (s : Result Reply Halt). Stops c.in-Err.stop s) whole (found_stops p n c.args.table test t (drop (i + 1) ts) c.in-Err.stop c.in-Err.ensures)

pub returns-then-fits : goal.returns-then-fits
returns-then-fits c =
    let n = nodes_asked c.args.graph.now in
    let p = slots_asked c.args.graph.now in
    let test = member_test n c.args.member_name.now c.args.sig.now in
    let ts = c.args.tokens.now in
    let i = c.loop-token.token-index in
    let t = c.token-item.result in
    let rest = drop (i + 1) ts in
    sym c.loop-token.invariant ∙ ap (λ xs. said p (first_walk test (live_members n c.args.table xs))) (item_at ts i t (search rules) c.token-item.is)
    ∙ found_next p n c.args.table test t rest
    ∙ ap (λ s. then_said s (λ fits. cond fits (Ok (Found t)) (said p (first_walk test (live_members n c.args.table rest))))) (c.in-Ok.ensures ∙ ap Ok c.if-fits.true)

pub loop-token-preserved : goal.loop-token-preserved
loop-token-preserved c =
    let n = nodes_asked c.args.graph.now in
    let p = slots_asked c.args.graph.now in
    let test = member_test n c.args.member_name.now c.args.sig.now in
    let ts = c.args.tokens.now in
    let i = c.loop-token.token-index in
    let t = c.token-item.result in
    let rest = drop (i + 1) ts in
    let whole = ap (λ xs. said p (first_walk test (live_members n c.args.table xs))) (sym (item_at ts i t (search rules) c.token-item.is)) ∙ c.loop-token.invariant in
    sym (found_next p n c.args.table test t rest
    ∙ ap (λ s. then_said s (λ fits. cond fits (Ok (Found t)) (said p (first_walk test (live_members n c.args.table rest))))) (c.in-Ok.ensures ∙ ap Ok c.if-fits.false))
    ∙ whole
