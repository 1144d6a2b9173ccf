use Rattle.std.proofs.Common.{sym, refl, subst, rules}
use Rattle.std.specs.List.{flat_map}
use Rattle.write_plan.specs.GraphWalk.{own_keys}
use Rattle.write_plan.specs.Seen.{seen_in}
use Rattle.write_plan.specs.inner.Taken.{met_rows}
use Rattle.write_plan.proofs.KeptLemmas.{TakesOk, stopped_on, takes_none}
use Rattle.write_plan.proofs.WalkLemmas.{members_next, members_stop, met_to}
use Rattle.write_plan.proofs.walk.take_members.Goals as goal

pub loop-token-init : goal.loop-token-init
loop-token-init g c =
    let see = seen_in (g.G.Graph.bytes c.args.graph.now) (g.G.Graph.edits c.args.graph.now) in (
      c.requires.met,
      refl,
      subst (λ rows. TakesOk see c.args.kept.now (flat_map own_keys rows) c.args.kept.now) (sym c.requires.begun) (takes_none see c.args.kept.now c.requires.kept),
    )

pub loop-token-preserved : goal.loop-token-preserved
loop-token-preserved g c =
    let see = seen_in (g.G.Graph.bytes c.args.graph.now) (g.G.Graph.edits c.args.graph.now) in
    let next = members_next see c.args.table c.args.members.now c.loop-token.token-index c.token-item.result (met_rows c.args.met.now) (met_rows c.loop-token.met)
    c.args.kept.now c.loop-token.kept (met_rows c.take_member.new.met) c.take_member.new.kept (search rules) c.token-item.is
    c.loop-token.invariant.1 c.loop-token.invariant.2 c.in_ok-take_member.ensures.met c.in_ok-take_member.ensures.keys in
    (c.in_ok-take_member.ensures.is_met, next.0, next.1)

pub returns-in_err-take_member-clause-keys : goal.returns-in_err-take_member-clause-keys
returns-in_err-take_member-clause-keys g c =
    let see = seen_in (g.G.Graph.bytes c.args.graph.now) (g.G.Graph.edits c.args.graph.now) in
    let e = c.in_err-take_member.field-0.0 in
    stopped_on see c.args.kept.now c.take_member.new.kept (flat_map own_keys (met_to see c.args.table (met_rows c.args.met.now) c.args.members.now).rows)
    c.from_residual.result e c.from_residual.ensures.1
    (members_stop see c.args.table c.args.members.now c.loop-token.token-index c.token-item.result (met_rows c.args.met.now) (met_rows c.loop-token.met)
    c.args.kept.now c.loop-token.kept e (search rules) c.token-item.is
    c.loop-token.invariant.1 c.loop-token.invariant.2 c.in_err-take_member.ensures.keys)
