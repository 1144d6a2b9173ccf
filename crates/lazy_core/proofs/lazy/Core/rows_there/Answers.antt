use Rattle.std.proofs.Common.{◌≡◌, ◌∙◌, ap, subst, true}
use Rattle.node_model.specs.EditAnswers.{all_done}
use Rattle.node_model.specs.Graph.{untouched}
use Rattle.lazy_core.specs.History.{edits, graph_after}
use Rattle.lazy_core.specs.Slots.{CoreState}
use Rattle.lazy_core.proofs.GrowLemmas.{legal_done}
use Rattle.lazy_core.proofs.lazy.Core.rows_there.Goals as goal

pub returns-clause-nodes : goal.returns-clause-nodes
returns-clause-nodes c = c.self.invariant.0.nodes ∙ ap (λ (v : CoreState). (graph_after v.bytes v.history).nodes) c.self.view_is

pub returns-clause-done : goal.returns-clause-done
returns-clause-done c =
    subst (λ (v : CoreState). all_done (untouched v.bytes) (edits v.history) ≡ true) c.self.view_is
    (legal_done c.self.inside.image.value c.self.inside.history.items c.self.invariant.0.legal)
