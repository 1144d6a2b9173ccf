-- The passes of an actor, one of each module, and what a command does with them. No public contract cites these words.
use Rattle.std.specs.Prelude.{◌≡◌, ◌≢◌, ℕ, ◌<◌, List, [], ◌∷◌, ◌++◌, length, slice_get, Option, Some, None, Result, Ok, Err}
use Rattle.turn_lock.specs.Passes.{IsPassOf, LockValue, PassValue}
use Rattle.cil_base.specs.declared.no_memory.NoMemory.{NoMemory}
use Rattle.job_text.specs.declared.command.Command.{Command}
use Rattle.node_model.specs.declared.entry.Entry.{Entry}
use Rattle.shared_module.specs.Adds.{by_of}
use Rattle.shared_module.specs.declared.ask.Answer.{Answer}
use Rattle.shared_module.specs.declared.edit.Edited.{Edited}
use Rattle.cecil_top.specs.Acts.{Act, command_acts}
use Rattle.cecil_top.specs.Commands.{home_of}
use Rattle.cecil_top.specs.Explained.{ExplainsCaller}
use Rattle.cecil_top.specs.Following.{IsFollowedBy}
use Rattle.cecil_top.specs.declared.said.Resolution.{Resolution}
use Rattle.cecil_top.specs.declared.said.Said.{Said}
use Rattle.cecil_top.specs.declared.said.Said.TheVariants as saids
use Rattle.cecil_top.specs.inner.Steps.{IsStep}

-- a module, as its callers see it
abbrev pub Shared : Type 0
Shared = LockValue (List ℕ)

abbrev pub Held : Type 0
Held = PassValue (List ℕ) Entry

-- there is a pass of the module, and it is of this caller
abbrev pub IsPassFor : Shared → ℕ → Option Held → Type 0
IsPassFor l k (Some p) = IsPassOf l p × (p.number ≡ k)
IsPassFor l k None = ⊥

abbrev pub seen_by : Option Held → List Entry
seen_by (Some p) = p.seen
seen_by None = []

pub record HasPasses (modules : List Shared) (k : ℕ) (passes : List (Option Held)) : Type 0 where
  pub as_many : length passes ≡ length modules
  pub each :
      (m : ℕ) (l : Shared) (p : Option Held) → slice_get modules m ≡ Some l → slice_get passes m ≡ Some p
      → IsPassFor l k p

abbrev pub IsThere : Option (Option Held) → Type 0
IsThere (Some (Some p)) = Unit {0}
IsThere (Some None) = ⊥
IsThere None = ⊥

-- a pass stands at this place
abbrev pub HasPassAt : List (Option Held) → ℕ → Type 0
HasPassAt passes m = (m < length passes) × IsThere (slice_get passes m)

-- an act is a step in its module, and the passes of other modules stay
pub record IsPassStep (modules : List Shared) (k : ℕ) (act : Act) (old new : List (Option Held)) : Type 0 where
  pub others : (m : ℕ) → m ≢ home_of act.asked → slice_get new m ≡ slice_get old m
  pub own :
      (l : Shared) (p q : Option Held) → slice_get modules (home_of act.asked) ≡ Some l
      → slice_get old (home_of act.asked) ≡ Some p → slice_get new (home_of act.asked) ≡ Some q
      → IsStep l.base (by_of k act.command act.step) act.asked act.said (seen_by p) (seen_by q)

-- all that was said up to now is explained, in each module by what the pass has seen
abbrev pub ExplainsSoFar : List Shared → ℕ → List Act → List (Option Held) → Type 0
ExplainsSoFar modules k acts passes =
    (m : ℕ) (l : Shared) (p : Option Held) → slice_get modules m ≡ Some l → slice_get passes m ≡ Some p
    → ExplainsCaller l.base k m acts (seen_by p)

-- whatever was explained before still is, with these acts behind it
abbrev pub AddsActs : List Shared → ℕ → List Act → List (Option Held) → List (Option Held) → Type 0
AddsActs modules k acts old new =
    (before : List Act) → ExplainsSoFar modules k before old → ExplainsSoFar modules k (before ++ acts) new

-- the next command was answered, with what is said behind all that was said before
pub record IsSaidStep (modules : List Shared) (k : ℕ) (command : Command) (said more : List Said)
    (old new : List (Option Held)) : Type 0 where
  pub a : Said
  pub more_is : more ≡ said ++ a ∷ []
  pub followed : IsFollowedBy (length modules) command a
  pub acts : AddsActs modules k (command_acts (length said) command a) old new

-- an answer that there is stands behind what was said
abbrev pub IsToldAnswer : Result Answer NoMemory → List Said → List Said → Type 0
IsToldAnswer (Ok a) old new = new ≡ old ++ saids.Query a ∷ []
IsToldAnswer (Err e) old new = ⊥

abbrev pub IsToldEdit : Result Edited NoMemory → List Said → List Said → Type 0
IsToldEdit (Ok x) old new = new ≡ old ++ saids.Edit x ∷ []
IsToldEdit (Err e) old new = ⊥

-- a resolution that there is stands behind what was said
abbrev pub IsToldResolution : Result Resolution NoMemory → List Said → List Said → Type 0
IsToldResolution (Ok r) old new = new ≡ old ++ saids.Resolved r ∷ []
IsToldResolution (Err e) old new = ⊥
