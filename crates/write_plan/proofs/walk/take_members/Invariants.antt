use Rattle.std.proofs.Common.{◌≡◌, take}
use Rattle.std.specs.List.{flat_map}
use Rattle.write_plan.specs.GraphWalk.{own_keys}
use Rattle.write_plan.specs.Seen.{seen_in}
use Rattle.write_plan.specs.inner.Taken.{IsMet, met_rows}
use Rattle.write_plan.proofs.KeptLemmas.{TakesOk}
use Rattle.write_plan.proofs.WalkLemmas.{met_to}
use Rattle.write_plan.proofs.walk.take_members.Given as goal

abbrev pub invariant-loop-token : goal.invariant-loop-token
invariant-loop-token g l =
    IsMet l.met
    × (met_rows l.met ≡ met_to (seen_in (g.G.Graph.bytes l.graph) (g.G.Graph.edits l.graph)) l.table (met_rows l.initial.met) (take l.token-index l.members))
    × TakesOk (seen_in (g.G.Graph.bytes l.graph) (g.G.Graph.edits l.graph)) l.initial.kept (flat_map own_keys l.met.rows) l.kept
