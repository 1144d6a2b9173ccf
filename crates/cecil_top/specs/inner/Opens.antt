-- How a run begins: actors are made, and get a pass of each module. No public contract cites these words.
use Rattle.std.specs.Prelude.{◌≡◌, ℕ, ◌<◌, ◌≤◌, List, [], ◌∷◌, ◌++◌, length, slice_get, Option, Some}
use Rattle.turn_lock.specs.Passes.{new_pass}
use Rattle.job_text.specs.declared.command.Command.{Command}
use Rattle.lazy_core.specs.Slots.{CoreState}
use Rattle.cecil_top.specs.declared.actor.Actor.{Actor}
use Rattle.cecil_top.specs.inner.Passes.{Held, Shared}

-- an actor with one pass more
abbrev pub with_pass : Held → Actor → Actor
with_pass p a = record a { passes = a.passes ++ Some p ∷ [] }

-- the first n actors have got their passes
pub record AreHandedOut (passes : List Held) (old new : List Actor) (n : ℕ) : Type 0 where
  pub as_many : length new ≡ length old
  pub before :
      (i : ℕ) (a x : Actor) (p : Held) → i < n → slice_get old i ≡ Some a → slice_get new i ≡ Some x
      → slice_get passes i ≡ Some p → x ≡ with_pass p a
  pub behind : (i : ℕ) → n ≤ i → slice_get new i ≡ slice_get old i

-- a new pass of each module, for the caller k
pub record AreFresh (modules : List Shared) (k : ℕ) (passes : List (Option Held)) : Type 0 where
  pub as_many : length passes ≡ length modules
  pub each :
      (m : ℕ) (l : Shared) (p : Option Held) → slice_get modules m ≡ Some l → slice_get passes m ≡ Some p
      → p ≡ Some (new_pass l.id (Some l.base) k)

-- an actor of this number with these commands, of which it has done none
pub record IsNew (modules : List Shared) (i : ℕ) (cs : List Command) (a : Actor) : Type 0 where
  pub number : a.number ≡ i
  pub given : a.given ≡ cs
  pub none_done : a.commands ≡ []
  pub none_said : a.said ≡ []
  pub passes : AreFresh modules i a.passes

-- the first n lists of commands have an actor each
pub record AllAreNew (modules : List Shared) (given : List (List Command)) (actors : List Actor) (n : ℕ) :
    Type 0 where
  pub as_many : length actors ≡ n
  pub each :
      (i : ℕ) (cs : List Command) (a : Actor) → slice_get given i ≡ Some cs → slice_get actors i ≡ Some a
      → IsNew modules i cs a

-- these are the modules of the first n cores, for so many callers
pub record AreOpened (cores : List CoreState) (callers : ℕ) (modules : List Shared) (n : ℕ) : Type 0 where
  pub as_many : length modules ≡ n
  pub each :
      (m : ℕ) (core : CoreState) (l : Shared) → slice_get cores m ≡ Some core → slice_get modules m ≡ Some l
      → (l.base ≡ core.bytes) × (l.callers ≡ callers)
