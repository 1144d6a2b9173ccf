-- What is answered to an edit by the slots that are filled, and what it changes.
use Rattle.std.specs.Prelude.{List, Option, Some, None, Result, Ok, Err}
use Rattle.node_model.specs.Changes.{Changing, token_made}
use Rattle.node_model.specs.EditRefusals.{early_refusal}
use Rattle.node_model.specs.EditWalks.{edit_walk}
use Rattle.node_model.specs.Nodes.{Nodes}
use Rattle.node_model.specs.Walk.{looked, said}
use Rattle.node_model.specs.declared.change.Change.{Change}
use Rattle.node_model.specs.declared.edit.Edit.{Edit}
use Rattle.node_model.specs.declared.edit_refusal.EditRefusal.{EditRefusal}
use Rattle.node_model.specs.declared.edit_refusal.EditRefusal.TheVariants.{Reached}
use Rattle.node_model.specs.declared.key.Key.{Key}
use Rattle.node_model.specs.declared.slot.Slot.{Slot}
use Rattle.node_model.specs.declared.walk.Halt.{Halt}
use Rattle.node_model.specs.declared.walk.Halt.TheVariants.{Lacks, Faulty}
use Rattle.graph_edits.specs.declared.applied.Applied.{Applied}
use Rattle.graph_edits.specs.declared.applied.Applied.TheVariants.{Done, Refused, Need}

-- by the refusal that was tried before, what was said, and the keys that were looked at
abbrev pub applied_by : Option EditRefusal → Result Changing Halt → List Key → Applied
applied_by (Some r) said keys = Refused r
applied_by None (Ok (Ok change)) keys = Done (token_made change.rows)
applied_by None (Ok (Err r)) keys = Refused r
applied_by None (Err (Faulty fault)) keys = Refused (Reached fault)
applied_by None (Err (Lacks k)) keys = Need keys

-- Done with the token of the row that is made, the first refusal, or Need of the keys up to the first that has no slot
unfoldable pub applied : Nodes → (Key → Option Slot) → Edit → Applied
applied n slots e = applied_by (early_refusal n e) (said slots (edit_walk n e)) (looked slots (edit_walk n e))

abbrev pub change_by : Option EditRefusal → Result Changing Halt → Option Change
change_by None (Ok (Ok change)) = Some change
change_by _ _ = None

-- what is changed, if the edit is done
unfoldable pub change_made : Nodes → (Key → Option Slot) → Edit → Option Change
change_made n slots e = change_by (early_refusal n e) (said slots (edit_walk n e))
