use Rattle.std.proofs.Common.{take, filter}
use Rattle.node_model.specs.KeyKinds.{has_kind}
use Rattle.write_plan.specs.Seen.{seen_in}
use Rattle.write_plan.proofs.KeptLemmas.{TakesOk}
use Rattle.write_plan.proofs.taking.take_keys.Given as goal

abbrev pub invariant-loop-key : goal.invariant-loop-key
invariant-loop-key g l =
    TakesOk (seen_in (g.G.Graph.bytes l.graph) (g.G.Graph.edits l.graph)) l.initial.kept (filter has_kind (take l.key-index l.keys)) l.kept
