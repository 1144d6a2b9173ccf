-- The edited graph: which rows there are, and what each key holds, after edits that come one after the other.
use Rattle.std.specs.Prelude.{ℕ, List, [], Option, Some, None, Result, Ok, Err}
use Rattle.std.specs.List.{fold}
use Rattle.std.specs.Option.{unwrap_or}
use Rattle.node_model.specs.Changes.{Changing, changed_slot, nodes_after}
use Rattle.node_model.specs.EditRefusals.{early_refusal}
use Rattle.node_model.specs.EditWalks.{edit_walk}
use Rattle.node_model.specs.Immediate.{read}
use Rattle.node_model.specs.Keys.{image_rows, token_of_key}
use Rattle.node_model.specs.Nodes.{Nodes}
use Rattle.node_model.specs.Walk.{said}
use Rattle.node_model.specs.declared.change.Change.{Change}
use Rattle.node_model.specs.declared.edit.Edit.{Edit}
use Rattle.node_model.specs.declared.edit_refusal.EditRefusal.{EditRefusal}
use Rattle.node_model.specs.declared.edit_refusal.EditRefusal.TheVariants.{NotThere, Reached}
use Rattle.node_model.specs.declared.key.Key.{Key}
use Rattle.node_model.specs.declared.slot.Slot.{Slot}
use Rattle.node_model.specs.declared.walk.Halt.{Halt}
use Rattle.node_model.specs.declared.walk.Halt.TheVariants.{Lacks, Faulty}

pub record Graph : Type 0 where
  pub nodes : Nodes
  pub held : Key → Slot

-- an image to which nothing was done
abbrev pub untouched : List ℕ → Graph
untouched b = record { nodes = record { rows = image_rows b; removed = [] }; held = read b }

-- the first refusal that was tried before, a key's fault, or what was said. The last never comes: each key of a graph
-- holds something, and a value of its own kind
abbrev pub changing_by : Option EditRefusal → Result Changing Halt → Changing
changing_by (Some r) asked = Err r
changing_by None (Ok changing) = changing
changing_by None (Err (Faulty fault)) = Err (Reached fault)
changing_by None (Err (Lacks k)) = Err (NotThere (token_of_key k))

-- what an edit changes, or its first refusal
unfoldable pub edit_changing : Graph → Edit → Changing
edit_changing g e = changing_by (early_refusal g.nodes e) (said (λ k. Some (g.held k)) (edit_walk g.nodes e))

-- the graph after a change: each key holds what it held, but for those that change
abbrev pub graph_changed : Graph → Change → Graph
graph_changed g change =
    record { nodes = nodes_after change.rows g.nodes; held = λ k. unwrap_or (changed_slot change k) (g.held k) }

abbrev pub graph_by : Graph → Changing → Graph
graph_by g (Ok change) = graph_changed g change
graph_by g (Err r) = g

-- the graph after an edit; one that is refused changes nothing
unfoldable pub edited : Graph → Edit → Graph
edited g e = graph_by g (edit_changing g e)

-- the graph of an image after these edits, in order
abbrev pub graph_of : List ℕ → List Edit → Graph
graph_of b j = fold edited (untouched b) j
