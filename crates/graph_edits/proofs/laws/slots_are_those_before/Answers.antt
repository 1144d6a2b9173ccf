use Rattle.graph_edits.proofs.ApplyLemmas.{slots_before}
use Rattle.graph_edits.proofs.laws.slots_are_those_before.Goals as goal

pub returns : goal.returns
returns c = slots_before
