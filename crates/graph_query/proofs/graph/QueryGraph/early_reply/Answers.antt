use Rattle.std.proofs.Common.{◌∙◌, ap}
use Rattle.node_model.specs.Nodes.{Nodes}
use Rattle.node_model.specs.Questions.{early_reply}
use Rattle.graph_query.proofs.graph.QueryGraph.early_reply.Goals as goal

pub returns : goal.returns
returns c = c.early_reply.ensures ∙ ap (λ (n : Nodes). early_reply n c.args.query.now) c.rows_there.ensures
