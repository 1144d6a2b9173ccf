-- The keys that an edit's own words name are the first that it looks at.
use Rattle.std.specs.Prelude.{◌≡◌, Bool, Option, length, not, take}
use Rattle.std.specs.Result.{is_ok}
use Rattle.node_model.specs.EditNeeds.{edit_needs}
use Rattle.node_model.specs.EditWalks.{edit_walk}
use Rattle.node_model.specs.Nodes.{Nodes}
use Rattle.node_model.specs.Walk.{looked, part}
use Rattle.node_model.specs.declared.edit.Edit.{Edit}
use Rattle.node_model.specs.declared.key.Key.{Key}
use Rattle.node_model.specs.declared.slot.Slot.{Slot}
use Rattle.graph_edits.specs.Stands.{up_to}

-- a key that has no slot, or holds a fault
abbrev pub says_nothing : (Key → Option Slot) → Key → Bool
says_nothing p k = not (is_ok (part k (p k)))

-- by any slots: the first keys that an edit looks at are those that its own words name, in order, up to the first that
-- has no slot or holds a fault
abbrev pub NeedsAreLooked : Type 0
NeedsAreLooked =
    (n : Nodes) (p : Key → Option Slot) (e : Edit)
    → take (length (edit_needs e)) (looked p (edit_walk n e)) ≡ up_to (says_nothing p) (edit_needs e)
