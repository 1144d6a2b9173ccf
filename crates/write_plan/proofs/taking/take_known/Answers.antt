use Rattle.std.proofs.Common.{◌∙◌, sym, subst}
use Rattle.write_plan.specs.Seen.{seen_in}
use Rattle.write_plan.specs.inner.Taken.{Takes}
use Rattle.write_plan.proofs.KeptLemmas.{TakesOk, takes_none}
use Rattle.write_plan.proofs.WalkLemmas.{known_one, unknown_one}
use Rattle.write_plan.proofs.taking.take_known.Goals as goal

pub returns-then-has_kind : goal.returns-then-has_kind
returns-then-has_kind g c =
    let see = seen_in (g.G.Graph.bytes c.args.graph.now) (g.G.Graph.edits c.args.graph.now) in
    subst (λ ks. Takes see c.args.kept.now ks c.take_key.new.kept c.take_key.result) (sym (known_one c.args.key.now (sym c.has_kind.ensures ∙ c.if-has_kind.true))) c.take_key.ensures

pub returns : goal.returns
returns g c =
    let see = seen_in (g.G.Graph.bytes c.args.graph.now) (g.G.Graph.edits c.args.graph.now) in
    subst (λ ks. TakesOk see c.args.kept.now ks c.args.kept.now) (sym (unknown_one c.args.key.now (sym c.has_kind.ensures ∙ c.if-has_kind.false)))
    (takes_none see c.args.kept.now c.requires)
