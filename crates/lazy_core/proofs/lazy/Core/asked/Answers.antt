use Rattle.std.proofs.Common.{◌∙◌, ap}
use Rattle.lazy_core.specs.History.{fills, graph_after}
use Rattle.lazy_core.specs.Slots.{CoreState, slot_after}
use Rattle.lazy_core.proofs.lazy.Core.asked.Goals as goal

pub returns-clause-nodes : goal.returns-clause-nodes
returns-clause-nodes c = c.self.invariant.0.nodes ∙ ap (λ (v : CoreState). (graph_after v.bytes v.history).nodes) c.self.view_is

pub returns-clause-slots : goal.returns-clause-slots
returns-clause-slots c key = c.self.invariant.0.slot key ∙ ap (λ (v : CoreState). slot_after v.bytes v.history key) c.self.view_is

pub returns-clause-fills : goal.returns-clause-fills
returns-clause-fills c = c.self.invariant.2 ∙ ap (λ (v : CoreState). fills v.history) c.self.view_is
