-- What is seen of a core, and what holds of its slots.
use Rattle.std.specs.Prelude.{◌≡◌, ℕ, ◌+◌, ◌≤◌, List, length, Option, Some, None, slice_index, if◌then◌else◌}
use Rattle.node_model.specs.Keys.{image_rows}
use Rattle.node_model.specs.Places.{image_shape}
use Rattle.node_model.specs.declared.entry.Entry.{Entry}
use Rattle.node_model.specs.declared.key.Key.{Key}
use Rattle.node_model.specs.declared.slot.Slot.{Slot}
use Rattle.graph_edits.specs.Graphs.{nodes_in, slots_in}
use Rattle.graph_edits.specs.declared.graph.EditGraph.{EditGraph}
use Rattle.lazy_core.specs.History.{filled, fills, graph_after}
use Rattle.lazy_core.specs.Legal.{Legal}

-- the bytes of the image, the history, and for how many more entries with their slots memory was taken
pub record CoreState : Type 0 where
  pub bytes : List ℕ
  pub history : List Entry
  pub spare : ℕ

-- what a key has for a slot after a history: what it holds where it is filled, and none elsewhere
unfoldable pub slot_after : List ℕ → List Entry → Key → Option Slot
slot_after b h k = if filled b h k then Some ((graph_after b h).held k) else None

-- The history is legal. The graph in memory has the rows that there are after it, and each key has the slot that the
-- history calls for. The store has the shape of the image's rows.
pub record Holds (b : List ℕ) (h : List Entry) (g : EditGraph) : Type 0 where
  pub legal : Legal b h
  pub nodes : nodes_in g ≡ (graph_after b h).nodes
  pub slot : (k : Key) → slots_in g k ≡ slot_after b h k
  pub rows : (table : ℕ) → slice_index g.rows table ≡ image_rows b table
  pub long : length g.rows ≡ 64
  pub shape : g.slots.shape ≡ image_shape g.rows

-- so many more entries and their slots take no memory
pub record HasSpare (h : List Entry) (g : EditGraph) (spare capacity : ℕ) : Type 0 where
  pub slots : spare ≤ g.slots.spare
  pub entries : length h + spare ≤ capacity

-- so many entries are fills
abbrev pub CountsFills : List Entry → ℕ → Type 0
CountsFills h count = count ≡ fills h
