use Rattle.std.proofs.Common.{[], ◌∷◌, filter, sym}
use Rattle.std.specs.Prelude.{Ok, Err}
use Rattle.node_model.specs.KeyKinds.{has_kind}
use Rattle.node_model.specs.declared.key.Key.TheVariants.{Row, Sig, Body, Data, Resource}
use Rattle.write_plan.specs.GraphWalk.{own_keys}
use Rattle.write_plan.specs.Seen.{seen_in}
use Rattle.write_plan.proofs.KeptLemmas.{stopped_on, takes_more, takes_one, takes_then}
use Rattle.write_plan.proofs.WalkLemmas.{always_on_ok}
use Rattle.write_plan.proofs.taking.take_new.Goals as goal

pub returns-in_err-keep-clause-keys : goal.returns-in_err-keep-clause-keys
returns-in_err-keep-clause-keys g c =
    let see = seen_in (g.G.Graph.bytes c.args.graph.now) (g.G.Graph.edits c.args.graph.now) in
    let t = c.args.token in
    let e = c.in_err-keep.field-0.0 in
    stopped_on see c.args.kept.now c.keep.new.self (own_keys t) c.from_residual.result e c.from_residual.ensures.1
    (takes_more see (Row t ∷ []) (filter has_kind (Sig t ∷ Body t ∷ Data t ∷ Resource t ∷ [])) e
    (takes_one see c.args.kept.now c.keep.new.self (Row t) c.args.seen (Err e) (sym c.requires.seen) c.requires.kept tt c.in_err-keep.ensures.refused))

pub take_keys-requires : goal.take_keys-requires
take_keys-requires g c =
    let see = seen_in (g.G.Graph.bytes c.args.graph.now) (g.G.Graph.edits c.args.graph.now) in
    (takes_one see c.args.kept.now c.keep.new.self (Row c.args.token) c.args.seen (Ok tt) (sym c.requires.seen) c.requires.kept
    c.in_ok-keep.ensures.kept c.in_ok-keep.ensures.refused).1

pub returns-clause-met : goal.returns-clause-met
returns-clause-met g c = always_on_ok c.take_keys.result (c.in_ok-meet_new.ensures.met, c.in_ok-meet_new.ensures.rows)

pub returns-clause-keys : goal.returns-clause-keys
returns-clause-keys g c =
    let see = seen_in (g.G.Graph.bytes c.args.graph.now) (g.G.Graph.edits c.args.graph.now) in
    let t = c.args.token in
    takes_then see c.args.kept.now c.keep.new.self c.take_keys.new.kept (Row t ∷ []) (filter has_kind (Sig t ∷ Body t ∷ Data t ∷ Resource t ∷ [])) c.take_keys.result
    (takes_one see c.args.kept.now c.keep.new.self (Row t) c.args.seen (Ok tt) (sym c.requires.seen) c.requires.kept
    c.in_ok-keep.ensures.kept c.in_ok-keep.ensures.refused)
    c.take_keys.ensures
