-- An edited graph in memory: which rows there are, and the slots that are filled.
use Rattle.std.specs.Prelude.{◌≡◌, Option, Some, None}
use Rattle.std.specs.Map.{lookup}
use Rattle.std.specs.Option.{option_or}
use Rattle.node_model.specs.Changes.{begun, nodes_after}
use Rattle.node_model.specs.Keys.{same_key}
use Rattle.node_model.specs.Nodes.{Nodes, nodes_of}
use Rattle.node_model.specs.Places.{slot_at}
use Rattle.node_model.specs.declared.change.Change.{Change}
use Rattle.node_model.specs.declared.key.Key.{Key}
use Rattle.node_model.specs.declared.slot.Slot.{Slot}
use Rattle.graph_edits.specs.declared.graph.EditGraph.{EditGraph}

abbrev pub nodes_in : EditGraph → Nodes
nodes_in g = nodes_of g.rows g.added g.removed

-- the slot of a key, if it is filled
abbrev pub slots_in : EditGraph → Key → Option Slot
slots_in g k = slot_at g.slots k

-- the rows are those after a change; the keys that change have their new content, those of a new row that had no slot
-- begin as they do, and every other key has the slot that it had
pub record IsMade (old : EditGraph) (change : Change) (new : EditGraph) : Type 0 where
  pub nodes : nodes_in new ≡ nodes_after change.rows (nodes_in old)
  pub slots : (k : Key) → slots_in new k
      ≡ option_or (lookup (same_key k) change.contents) (option_or (slots_in old k) (begun change.rows k))
  pub rows : new.rows ≡ old.rows
  pub shape : new.slots.shape ≡ old.slots.shape

-- nothing that is seen of the graph has changed
pub record IsKept (old new : EditGraph) : Type 0 where
  pub nodes : nodes_in new ≡ nodes_in old
  pub slots : (k : Key) → slots_in new k ≡ slots_in old k
  pub rows : new.rows ≡ old.rows
  pub shape : new.slots.shape ≡ old.slots.shape

-- by the change that was made, if one was
abbrev pub Follows : EditGraph → Option Change → EditGraph → Type 0
Follows old (Some change) new = IsMade old change new
Follows old None new = IsKept old new
