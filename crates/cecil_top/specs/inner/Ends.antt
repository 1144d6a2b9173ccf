-- How modules end: their passes come out of the actors, and their histories explain what was said. No public contract
-- cites these words.
use Rattle.std.specs.Prelude.{◌≡◌, ℕ, ◌<◌, ◌≤◌, List, All, None, length, slice_get, slice_set, Option, Some}
use Rattle.lazy_core.specs.History.{entry_caller}
use Rattle.lazy_core.specs.Legal.{Legal}
use Rattle.lazy_core.specs.Slots.{CoreState}
use Rattle.cecil_top.specs.Acts.{acts_of}
use Rattle.cecil_top.specs.Explained.{ExplainsCaller}
use Rattle.cecil_top.specs.declared.actor.Actor.{Actor}
use Rattle.cecil_top.specs.declared.record.ActorRecord.{ActorRecord}
use Rattle.cecil_top.specs.inner.Passes.{HasPassAt, Held, IsPassFor, Shared, seen_by}

-- an actor without its pass of one module
abbrev pub without_pass : ℕ → Actor → Actor
without_pass m a = record a { passes = slice_set a.passes m None }

-- what is kept of an actor
abbrev pub record_of : Actor → ActorRecord
record_of a = record { commands = a.commands; said = a.said }

-- the first n actors gave these passes of the module, in order
pub record AreGiven (m : ℕ) (actors : List Actor) (passes : List Held) (n : ℕ) : Type 0 where
  pub as_many : length passes ≡ n
  pub each :
      (i : ℕ) (a : Actor) (p : Held) → slice_get actors i ≡ Some a → slice_get passes i ≡ Some p
      → slice_get a.passes m ≡ Some (Some p)

-- and the first n actors are without them
pub record AreWithout (m : ℕ) (old new : List Actor) (n : ℕ) : Type 0 where
  pub as_many : length new ≡ length old
  pub before :
      (i : ℕ) (a x : Actor) → i < n → slice_get old i ≡ Some a → slice_get new i ≡ Some x → x ≡ without_pass m a
  pub behind : (i : ℕ) → n ≤ i → slice_get new i ≡ slice_get old i

-- each actor has its pass of the module, which explains what was said to it
pub record CanClose (l : Shared) (m : ℕ) (actors : List Actor) : Type 0 where
  pub callers : l.callers ≡ length actors
  pub there : (i : ℕ) (a : Actor) → slice_get actors i ≡ Some a → HasPassAt a.passes m
  pub passes :
      (i : ℕ) (a : Actor) (p : Option Held) → slice_get actors i ≡ Some a → slice_get a.passes m ≡ Some p
      → IsPassFor l i p
  pub explained :
      (i : ℕ) (a : Actor) (p : Option Held) → slice_get actors i ≡ Some a → slice_get a.passes m ≡ Some p
      → ExplainsCaller l.base i m (acts_of a.commands a.said) (seen_by p)

-- the core of a module at its end
pub record IsClosed (l : Shared) (m : ℕ) (actors : List Actor) (core : CoreState) : Type 0 where
  pub bytes : core.bytes ≡ l.base
  pub legal : Legal core.bytes core.history
  pub callers : All (λ e. entry_caller e < length actors) core.history
  pub explained :
      (i : ℕ) (a : Actor) → slice_get actors i ≡ Some a
      → ExplainsCaller core.bytes i m (acts_of a.commands a.said) core.history

abbrev pub AllCanClose : List Shared → List Actor → Type 0
AllCanClose modules actors = (m : ℕ) (l : Shared) → slice_get modules m ≡ Some l → CanClose l m actors

-- the first n modules are closed
pub record AllAreClosed (modules : List Shared) (actors : List Actor) (cores : List CoreState) (n : ℕ) :
    Type 0 where
  pub as_many : length cores ≡ n
  pub each :
      (m : ℕ) (l : Shared) (core : CoreState) → slice_get modules m ≡ Some l → slice_get cores m ≡ Some core
      → IsClosed l m actors core

-- what was said to an actor stays, and so do its passes from number n on
pub record IsSameFrom (n : ℕ) (a x : Actor) : Type 0 where
  pub commands : x.commands ≡ a.commands
  pub said : x.said ≡ a.said
  pub as_many : length x.passes ≡ length a.passes
  pub passes : (m : ℕ) → n ≤ m → slice_get x.passes m ≡ slice_get a.passes m

pub record AllAreSameFrom (n : ℕ) (old new : List Actor) : Type 0 where
  pub as_many : length new ≡ length old
  pub each :
      (i : ℕ) (a x : Actor) → slice_get old i ≡ Some a → slice_get new i ≡ Some x → IsSameFrom n a x
