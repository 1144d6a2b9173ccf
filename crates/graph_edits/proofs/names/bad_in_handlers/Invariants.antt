use Rattle.std.proofs.Common.{◌≡◌, drop}
use Rattle.std.specs.List.{flat_map}
use Rattle.il_code.specs.declared.handler.Handler.{Handler}
use Rattle.node_model.specs.NamedTokens.{handler_kind_names}
use Rattle.node_model.specs.Nodes.{nodes_there}
use Rattle.graph_edits.specs.inner.BadNames.{first_bad}
use Rattle.graph_edits.proofs.names.bad_in_handlers.Given as goal

abbrev pub invariant-loop-handler : goal.invariant-loop-handler
invariant-loop-handler l =
    first_bad (nodes_there l.rows) (flat_map (λ (h : Handler). handler_kind_names h.kind) l.handlers)
    ≡ first_bad (nodes_there l.rows) (flat_map (λ (h : Handler). handler_kind_names h.kind) (drop l.handler-index l.handlers))
