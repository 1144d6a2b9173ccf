use Rattle.std.proofs.Common.{[], ◌∷◌, ◌++◌, ◌+◌, subst, take, drop, filter, rules}
use Rattle.std.specs.Prelude.{Ok, Err}
use Rattle.std.specs.Option.{option_map}
use Rattle.node_model.specs.KeyKinds.{has_kind}
use Rattle.write_plan.specs.Seen.{seen_in}
use Rattle.write_plan.specs.Refusals.{Refused, first_fault}
use Rattle.write_plan.specs.declared.refusal.WriteRefusal.TheVariants.{Reached}
use Rattle.write_plan.proofs.KeptLemmas.{TakesOk, stopped_on, takes_more, takes_none, takes_then}
use Rattle.write_plan.proofs.WalkLemmas.{known_all, known_next}
use Rattle.write_plan.proofs.taking.take_keys.Goals as goal

pub loop-key-init : goal.loop-key-init
loop-key-init g c = takes_none _ c.args.kept.now c.requires

pub loop-key-preserved : goal.loop-key-preserved
loop-key-preserved g c =
    let see = seen_in (g.G.Graph.bytes c.args.graph.now) (g.G.Graph.edits c.args.graph.now) in
    let keys = c.args.keys.now in
    let i = c.loop-key.key-index in
    let key = c.key-item.result in
    subst (λ ks. TakesOk see c.args.kept.now ks c.take_known.new.kept) (known_next keys i key (search rules) c.key-item.is)
    (takes_then see c.args.kept.now c.loop-key.kept c.take_known.new.kept (filter has_kind (take i keys)) (filter has_kind (key ∷ [])) (Ok tt)
    c.loop-key.invariant c.in_ok-take_known.ensures)

pub returns-in_err-take_known : goal.returns-in_err-take_known
returns-in_err-take_known g c =
    let see = seen_in (g.G.Graph.bytes c.args.graph.now) (g.G.Graph.edits c.args.graph.now) in
    let keys = c.args.keys.now in
    let i = c.loop-key.key-index in
    let key = c.key-item.result in
    let e = c.in_err-take_known.field-0.0 in
    stopped_on see c.args.kept.now c.take_known.new.kept (filter has_kind keys) c.from_residual.result e c.from_residual.ensures.1
    (subst (λ ks. Refused (option_map Reached (first_fault see ks)) e) (known_all keys i key (search rules) c.key-item.is)
    (takes_more see (filter has_kind (take i keys) ++ filter has_kind (key ∷ [])) (filter has_kind (drop (i + 1) keys)) e
    (takes_then see c.args.kept.now c.loop-key.kept c.take_known.new.kept (filter has_kind (take i keys)) (filter has_kind (key ∷ [])) (Err e)
    c.loop-key.invariant c.in_err-take_known.ensures)))
