use Rattle.std.proofs.Common.{◌≡◌, take}
use Rattle.write_plan.specs.GraphWalk.{walk_start}
use Rattle.write_plan.specs.Seen.{seen_in}
use Rattle.write_plan.specs.inner.Taken.{IsTaken, IsMet, walked_so}
use Rattle.write_plan.proofs.WalkLemmas.{walked_to}
use Rattle.write_plan.proofs.walk.walk.Given as goal

abbrev pub invariant-loop-table : goal.invariant-loop-table
invariant-loop-table g l =
    IsMet l.met
    × IsTaken (seen_in (g.G.Graph.bytes l.graph) (g.G.Graph.edits l.graph)) l.kept
    × (walked_so l.kept l.met ≡ walked_to (seen_in (g.G.Graph.bytes l.graph) (g.G.Graph.edits l.graph)) walk_start (take l.table-index l.tables))
