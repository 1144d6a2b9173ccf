-- What single turns of a caller do, and the rounds that are made of them. No public contract cites these words.
use Rattle.std.specs.Prelude.{◌≡◌, ℕ, List, [], ◌∷◌, ◌++◌, IfOk, Option, Some, None, Result, Ok, Err, take}
use Rattle.cil_base.specs.declared.no_memory.NoMemory.{NoMemory}
use Rattle.node_model.specs.declared.edit.Edit.{Edit as EditOf}
use Rattle.node_model.specs.declared.entry.By.{By}
use Rattle.node_model.specs.declared.entry.Entry.{Entry}
use Rattle.node_model.specs.declared.entry.Entry.TheVariants.{Fill, Edit}
use Rattle.lazy_core.specs.Steps.{tried}
use Rattle.lazy_core.specs.declared.wanted.Tried.{Tried}
use Rattle.lazy_core.specs.declared.wanted.Tried.TheVariants.{Done, Refused, Need}
use Rattle.lazy_core.specs.declared.wanted.Wanted.{Wanted}
use Rattle.shared_module.specs.Adds.{Adds, AddsFills, IsForEdit}
use Rattle.shared_module.specs.Answers.{EndsWithDone, IsEdited, before_done, but_last}
use Rattle.shared_module.specs.declared.edit.Edited.{Edited}

-- no entry of the caller is added
abbrev pub AddsNothing : ℕ → List Entry → List Entry → Type 0
AddsNothing caller before after = Adds caller (λ h e. ⊥) before after

-- an entry is the fill of what was wanted, when the caller had seen these entries
abbrev pub IsFillOf : Wanted → List Entry → List Entry → Entry → Type 0
IsFillOf w seen h e = (e ≡ Fill w.by w.point w.why w.key) × (take w.point h ≡ take w.point seen)

-- an edit was done in this turn
pub record AddsDone (by : By) (e : EditOf) (before after : List Entry) : Type 0 where
  pub front : AddsNothing by.caller before (but_last after)
  pub last : after ≡ but_last after ++ Edit by (e ∷ []) ∷ []

-- what a turn comes to in which an edit is tried
abbrev pub TryTurn : List ℕ → By → EditOf → List Entry → List Entry → Result Tried NoMemory → Type 0
TryTurn b by e before after (Ok (Done made)) = AddsDone by e before after × (tried b (but_last after) e ≡ Done made)
TryTurn b by e before after (Ok (Refused r)) = AddsNothing by.caller before after × (tried b after e ≡ Refused r)
TryTurn b by e before after (Ok (Need ks)) = AddsNothing by.caller before after × (tried b after e ≡ Need ks)
TryTurn b by e before after (Err x) = AddsNothing by.caller before after

-- what an edit comes to
pub record EditEnds (b : List ℕ) (by : By) (e : EditOf) (before after : List Entry) (r : Result Edited NoMemory) :
    Type 0 where
  pub adds : AddsFills by (IsForEdit b e) before (before_done after r)
  pub done : EndsWithDone by e after r
  pub answer : IfOk r (IsEdited b e after)

-- what a round comes to, after which the edit may still have to be tried
abbrev pub EditRound : List ℕ → By → EditOf → List Entry → List Entry → Result (Option Edited) NoMemory → Type 0
EditRound b by e before after (Ok (Some edited)) = EditEnds b by e before after (Ok edited)
EditRound b by e before after (Ok None) = AddsFills by (IsForEdit b e) before after
EditRound b by e before after (Err x) = EditEnds b by e before after (Err x)
