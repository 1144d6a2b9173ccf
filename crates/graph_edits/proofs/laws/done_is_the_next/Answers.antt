use Rattle.graph_edits.proofs.NextLemmas.{done}
use Rattle.graph_edits.proofs.laws.done_is_the_next.Goals as goal

pub returns : goal.returns
returns c = done
