use Rattle.graph_edits.proofs.MeetLemmas.{meets}
use Rattle.graph_edits.proofs.laws.edits_meet_the_graph.Goals as goal

pub returns : goal.returns
returns c = meets
