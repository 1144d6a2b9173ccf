use Rattle.graph_facts.proofs.GraphLemmas.{graphs_hold}
use Rattle.graph_facts.proofs.laws.graphs_hold.Goals as goal

pub returns : goal.returns
returns c = graphs_hold
