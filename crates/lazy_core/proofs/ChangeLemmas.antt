-- The change of an edit that is done.
use Rattle.std.proofs.Common.{◌≡◌, refl, ◌∙◌, ap, Bool, true, false, Option, Some, None, Result, Ok, Err, is_some}
use Rattle.cil_base.specs.Token.{Token}
use Rattle.node_model.specs.Changes.{Changing}
use Rattle.node_model.specs.EditRefusals.{early_refusal}
use Rattle.node_model.specs.EditWalks.{edit_walk}
use Rattle.node_model.specs.Nodes.{Nodes}
use Rattle.node_model.specs.Walk.{looked, said}
use Rattle.node_model.specs.declared.change.Change.{Change}
use Rattle.node_model.specs.declared.edit.Edit.{Edit}
use Rattle.node_model.specs.declared.edit_refusal.EditRefusal.{EditRefusal}
use Rattle.node_model.specs.declared.key.Key.{Key}
use Rattle.node_model.specs.declared.slot.Slot.{Slot}
use Rattle.node_model.specs.declared.walk.Halt.{Halt}
use Rattle.node_model.specs.declared.walk.Halt.TheVariants.{Lacks, Faulty}
use Rattle.node_model.proofs.SoundLemmas.{Sound}
use Rattle.node_model.proofs.StepLemmas.{Came, sound_change}
use Rattle.graph_edits.specs.Applying.{applied, applied_by, change_by, change_made}
use Rattle.graph_edits.specs.declared.applied.Applied.{Applied}
use Rattle.graph_edits.specs.declared.applied.Applied.TheVariants.{Done, Refused, Need}

pub came : (n : Nodes) (p : Key → Option Slot) (e : Edit) (c : Change) → change_made n p e ≡ Some c → Came n p e c
unfolding change_made
came n p e c made = by_said (early_refusal n e) (said p (edit_walk n e)) refl refl made
  where
    by_said : (o : Option EditRefusal) (s : Result Changing Halt) → early_refusal n e ≡ o → said p (edit_walk n e) ≡ s → change_by o s ≡ Some c → Came n p e c
    by_said None (Ok (Ok d)) i j is = let same : d ≡ c = cc in record { early = i; says = j ∙ ap (λ x. Ok (Ok x)) same }
    by_said None (Ok (Err r)) i j is = absurd cc
    by_said None (Err h) i j is = absurd cc
    by_said (Some r) s i j is = absurd cc

-- an edit that is done changes something, and every other answer means that nothing is changed
pub done_change : (n : Nodes) (p : Key → Option Slot) (e : Edit) (made : Option Token) → applied n p e ≡ Done made → (c : Change) × (change_made n p e ≡ Some c)
unfolding applied change_made
done_change n p e made done = by_said (early_refusal n e) (said p (edit_walk n e)) done
  where
    by_said : (o : Option EditRefusal) (s : Result Changing Halt) → applied_by o s (looked p (edit_walk n e)) ≡ Done made → (c : Change) × (change_by o s ≡ Some c)
    by_said None (Ok (Ok c)) is = (c, refl)
    by_said None (Ok (Err r)) is = absurd cc
    by_said None (Err (Faulty f)) is = absurd cc
    by_said None (Err (Lacks k)) is = absurd cc
    by_said (Some r) s is = absurd cc

abbrev pub is_done : Applied → Bool
is_done (Done made) = true
is_done (Refused r) = false
is_done (Need ks) = false

pub no_change : (n : Nodes) (p : Key → Option Slot) (e : Edit) → is_done (applied n p e) ≡ false → change_made n p e ≡ None
unfolding applied change_made
no_change n p e not_done = by_said (early_refusal n e) (said p (edit_walk n e)) not_done
  where
    by_said : (o : Option EditRefusal) (s : Result Changing Halt) → is_done (applied_by o s (looked p (edit_walk n e))) ≡ false → change_by o s ≡ None
    by_said None (Ok (Ok c)) is = absurd cc
    by_said None (Ok (Err r)) is = refl
    by_said None (Err (Faulty f)) is = refl
    by_said None (Err (Lacks k)) is = refl
    by_said (Some r) s is = refl

-- a change that is made is sound: each key that changes had a slot
pub sound_made : (n : Nodes) (p : Key → Option Slot) (e : Edit) (c : Change) → change_made n p e ≡ Some c → Sound n (λ k. is_some (p k)) c
sound_made n p e c made = let here = came n p e c made in sound_change n p e c here.early here.says
