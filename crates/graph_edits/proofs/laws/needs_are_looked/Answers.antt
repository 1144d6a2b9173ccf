use Rattle.graph_edits.proofs.NeedLemmas.{needs_looked}
use Rattle.graph_edits.proofs.laws.needs_are_looked.Goals as goal

pub returns : goal.returns
returns c = needs_looked
