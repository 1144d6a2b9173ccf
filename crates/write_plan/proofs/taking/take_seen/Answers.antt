use Rattle.std.proofs.Common.{◌∙◌, sym, ap, subst, false, true}
use Rattle.std.proofs.lemmas.Result.{on_ok_weaker}
use Rattle.write_plan.specs.Seen.{is_seen, seen_in}
use Rattle.write_plan.specs.inner.Taken.{Takes, met_rows}
use Rattle.write_plan.proofs.KeptLemmas.{TakesOk, takes_none, takes_nothing}
use Rattle.write_plan.proofs.WalkLemmas.{row_seen, row_unseen, seen_keys, unseen_keys}
use Rattle.write_plan.proofs.taking.take_seen.Goals as goal

pub returns-then-not-is_seen-clause-met : goal.returns-then-not-is_seen-clause-met
returns-then-not-is_seen-clause-met g c =
    let see = seen_in (g.G.Graph.bytes c.args.graph.now) (g.G.Graph.edits c.args.graph.now) in
    sym (row_unseen see (met_rows c.args.met.now) c.args.token (ap is_seen (sym c.requires.seen) ∙ sym c.is_seen.ensures ∙ c.if-not-is_seen.true))

pub returns-then-not-is_seen-clause-keys : goal.returns-then-not-is_seen-clause-keys
returns-then-not-is_seen-clause-keys g c =
    let see = seen_in (g.G.Graph.bytes c.args.graph.now) (g.G.Graph.edits c.args.graph.now) in
    subst (λ ks. TakesOk see c.args.kept.now ks c.args.kept.now)
    (sym (unseen_keys see (met_rows c.args.met.now) c.args.token (ap is_seen (sym c.requires.seen) ∙ sym c.is_seen.ensures ∙ c.if-not-is_seen.true)))
    (takes_none see c.args.kept.now c.requires.kept)

pub returns-then-has-clause-met : goal.returns-then-has-clause-met
returns-then-has-clause-met g c =
    let see = seen_in (g.G.Graph.bytes c.args.graph.now) (g.G.Graph.edits c.args.graph.now) in
    let there = ap is_seen (sym c.requires.seen) ∙ sym c.is_seen.ensures ∙ c.if-not-is_seen.false in
    on_ok_weaker c.meet_again.result (λ rows. rows ∙ sym (row_seen see (met_rows c.args.met.now) c.args.token there)) c.meet_again.ensures.rows

pub returns-then-has-clause-keys : goal.returns-then-has-clause-keys
returns-then-has-clause-keys g c =
    let see = seen_in (g.G.Graph.bytes c.args.graph.now) (g.G.Graph.edits c.args.graph.now) in
    let there = ap is_seen (sym c.requires.seen) ∙ sym c.is_seen.ensures ∙ c.if-not-is_seen.false in
    subst (λ ks. Takes see c.args.kept.now ks c.args.kept.now c.meet_again.result)
    (sym (seen_keys see (met_rows c.args.met.now) c.args.token true there (sym c.if-has.ensures)))
    (takes_nothing see c.args.kept.now c.meet_again.result c.requires.kept c.meet_again.ensures.refused)

pub returns-clause-met : goal.returns-clause-met
returns-clause-met g c =
    let see = seen_in (g.G.Graph.bytes c.args.graph.now) (g.G.Graph.edits c.args.graph.now) in
    let there = ap is_seen (sym c.requires.seen) ∙ sym c.is_seen.ensures ∙ c.if-not-is_seen.false in
    on_ok_weaker c.take_new.result (λ met. met.1 ∙ sym (row_seen see (met_rows c.args.met.now) c.args.token there)) c.take_new.ensures.met

pub returns-clause-keys : goal.returns-clause-keys
returns-clause-keys g c =
    let see = seen_in (g.G.Graph.bytes c.args.graph.now) (g.G.Graph.edits c.args.graph.now) in
    let there = ap is_seen (sym c.requires.seen) ∙ sym c.is_seen.ensures ∙ c.if-not-is_seen.false in
    subst (λ ks. Takes see c.args.kept.now ks c.take_new.new.kept c.take_new.result)
    (sym (seen_keys see (met_rows c.args.met.now) c.args.token false there (sym c.if-has.ensures)))
    c.take_new.ensures.keys
