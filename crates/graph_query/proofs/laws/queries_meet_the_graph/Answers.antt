use Rattle.graph_query.proofs.AnswerLemmas.{meets}
use Rattle.graph_query.proofs.laws.queries_meet_the_graph.Goals as goal

pub returns : goal.returns
returns c = meets
