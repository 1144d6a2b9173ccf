use Rattle.std.proofs.Common.{◌∙◌, ap}
use Rattle.node_model.specs.Nodes.{Nodes, is_live_row}
use Rattle.graph_query.proofs.graph.QueryGraph.is_live.Goals as goal

pub returns : goal.returns
returns c = c.is_live.ensures ∙ ap (λ (n : Nodes). is_live_row n c.args.token) c.rows_there.ensures
