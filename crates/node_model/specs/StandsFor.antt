-- Slots that stand for the graph of an image after edits.
use Rattle.std.specs.Prelude.{◌≡◌, ℕ, List, Option, Some, true, is_some, ◌&&◌}
use Rattle.node_model.specs.EditAnswers.{all_done}
use Rattle.node_model.specs.Graph.{graph_of, untouched}
use Rattle.node_model.specs.KeyKinds.{has_kind}
use Rattle.node_model.specs.Keys.{is_key_there, token_of_key}
use Rattle.node_model.specs.Nodes.{Nodes, is_added}
use Rattle.node_model.specs.declared.edit.Edit.{Edit}
use Rattle.node_model.specs.declared.key.Key.{Key}
use Rattle.node_model.specs.declared.slot.Slot.{Slot}

-- Each of the edits is done after those before it, and the rows are those that there then are. A key that has a slot is
-- one of them, and its slot is what it holds; each key of a row that was added has one.
pub record StandsFor (b : List ℕ) (j : List Edit) (n : Nodes) (slot_at : Key → Option Slot) : Type 0 where
  pub done : all_done (untouched b) j ≡ true
  pub nodes : n ≡ (graph_of b j).nodes
  pub known : (k : Key) → is_some (slot_at k) ≡ true → (is_key_there n.rows k && has_kind k) ≡ true
  pub slot : (k : Key) (s : Slot) → slot_at k ≡ Some s → s ≡ (graph_of b j).held k
  pub added : (k : Key) → (is_added b n (token_of_key k) && has_kind k) ≡ true → is_some (slot_at k) ≡ true
