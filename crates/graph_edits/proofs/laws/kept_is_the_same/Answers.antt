use Rattle.graph_edits.proofs.NextLemmas.{kept}
use Rattle.graph_edits.proofs.laws.kept_is_the_same.Goals as goal

pub returns : goal.returns
returns c = kept
