use Rattle.std.proofs.Common.{◌∙◌, ap}
use Rattle.node_model.specs.Look.{key_status}
use Rattle.node_model.specs.Nodes.{Nodes}
use Rattle.lazy_core.specs.History.{graph_after}
use Rattle.lazy_core.proofs.ReplyLemmas.{live_known}
use Rattle.lazy_core.proofs.look.CoreGraph.look.Goals as goal

pub held-requires : goal.held-requires
held-requires c =
    live_known (graph_after c.args.self.now.bytes c.args.self.now.history) c.args.key.now
    (c.in-Live.ensures ∙ ap (λ (n : Nodes). key_status n c.args.key.now) c.rows_there.ensures.nodes) c.requires
