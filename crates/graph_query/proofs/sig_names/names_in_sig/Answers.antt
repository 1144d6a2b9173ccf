use Rattle.std.proofs.Common.{sym, ◌∙◌, ap, subst, ◌+◌, drop, length, length-append, [], ◌∷◌, List, ℕ, Result, arith, rules}
use Rattle.node_model.specs.Parts.{Stops}
use Rattle.node_model.specs.RowNames.{named_in_sig, type_name_walk}
use Rattle.node_model.specs.Walk.{each_walk, said}
use Rattle.node_model.specs.declared.walk.Halt.{Halt}
use Rattle.node_model.proofs.SayLemmas.{after, each_more}
use Rattle.graph_query.specs.Answered.{nodes_asked, slots_asked}
use Rattle.graph_query.proofs.MemberLemmas.{each_stops, item_at}
use Rattle.graph_query.proofs.sig_names.names_in_sig.Goals as goal

pub returns-in-Err-clause-names : goal.returns-in-Err-clause-names
returns-in-Err-clause-names c =
    let n = nodes_asked c.args.graph.now in
    let p = slots_asked c.args.graph.now in
    let f = named_in_sig n (type_name_walk n c.args.depth) in
    let ts = c.args.tokens.now in
    let i = c.loop-token.token-index in
    let t = c.token-item.result in
    let front = c.loop-token.names in
    let whole = ap (λ xs. after front (said p (each_walk f xs))) (sym (item_at ts i t (search rules) c.token-item.is)) ∙ c.loop-token.invariant.0 in
    subst (λ (s : Result (List (List ℕ)) Halt). Stops c.in-Err.stop s) whole (each_stops p f t (drop (i + 1) ts) front c.in-Err.stop c.in-Err.ensures)

pub loop-token-preserved : goal.loop-token-preserved
loop-token-preserved c =
    let n = nodes_asked c.args.graph.now in
    let p = slots_asked c.args.graph.now in
    let f = named_in_sig n (type_name_walk n c.args.depth) in
    let ts = c.args.tokens.now in
    let i = c.loop-token.token-index in
    let t = c.token-item.result in
    let front = c.loop-token.names in
    let name = c.in-Ok.name in
    let rest = drop (i + 1) ts in
    let whole = ap (λ xs. after front (said p (each_walk f xs))) (sym (item_at ts i t (search rules) c.token-item.is)) ∙ c.loop-token.invariant.0 in
    let pushed = c.in_ok-push-in-Ok.ensures.ok in (
      ap (λ names. after names (said p (each_walk f rest))) pushed ∙ sym (each_more p f t rest front name c.in-Ok.ensures) ∙ whole,
      omega (arith, c.loop-token.invariant.1, ap length pushed, length-append front (name ∷ [])),
    )
