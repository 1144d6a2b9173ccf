-- A core whose graph was edited, or was not.
use Rattle.std.proofs.Common.{◌≡◌, sym, ◌∙◌, ap, subst, ℕ, false, List, [], ◌∷◌, ◌++◌, Option}
use Rattle.cil_base.specs.Token.{Token}
use Rattle.node_model.specs.declared.edit.Edit.{Edit as EditOf}
use Rattle.node_model.specs.declared.entry.By.{By}
use Rattle.node_model.specs.declared.entry.Entry.{Entry}
use Rattle.node_model.specs.declared.entry.Entry.TheVariants.{Edit}
use Rattle.graph_edits.specs.Applying.{applied, change_made}
use Rattle.graph_edits.specs.Graphs.{Follows, nodes_in, slots_in}
use Rattle.graph_edits.specs.declared.applied.Applied.TheVariants.{Done}
use Rattle.graph_edits.specs.declared.graph.EditGraph.{EditGraph}
use Rattle.lazy_core.specs.Slots.{Holds}
use Rattle.lazy_core.proofs.ChangeLemmas.{done_change, is_done, no_change}
use Rattle.lazy_core.proofs.HoldsLemmas.{holds_edit, holds_kept}
use Rattle.lazy_core.proofs.TryLemmas.{may_edit, tried_of, try_is}

pub holds_done : (b : List ℕ) (h : List Entry) (old new : EditGraph) (by : By) (e : EditOf) (made : Option Token) → Holds b h old
    → applied (nodes_in old) (slots_in old) e ≡ Done made → Follows old (change_made (nodes_in old) (slots_in old) e) new
    → Holds b (h ++ Edit by (e ∷ []) ∷ []) new
holds_done b h old new by e made holds done follows =
    let change = done_change (nodes_in old) (slots_in old) e made done in
    holds_edit b h old new by e change.0 holds (may_edit b h e made (sym (try_is b h old e holds) ∙ ap tried_of done)) change.1
    (subst (λ o. Follows old o new) change.1 follows)

pub holds_undone : (b : List ℕ) (h : List Entry) (old new : EditGraph) (e : EditOf) → Holds b h old
    → is_done (applied (nodes_in old) (slots_in old) e) ≡ false → Follows old (change_made (nodes_in old) (slots_in old) e) new → Holds b h new
holds_undone b h old new e holds undone follows =
    holds_kept b h old new holds (subst (λ o. Follows old o new) (no_change (nodes_in old) (slots_in old) e undone) follows)
