-- An actor before and after its commands. No public contract cites these words.
use Rattle.std.specs.Prelude.{◌≡◌, ℕ, ◌≤◌, List, [], All, false, length, map, slice_get, take, Option, Some}
use Rattle.cil_base.specs.Token.{Token}
use Rattle.job_text.specs.References.{replaced_command}
use Rattle.job_text.specs.declared.command.Command.{Command}
use Rattle.cecil_top.specs.Acts.{acts_of}
use Rattle.cecil_top.specs.Commands.{said_token}
use Rattle.cecil_top.specs.Explains.{AreDone}
use Rattle.cecil_top.specs.Following.{IsFollowedBy}
use Rattle.job_text.specs.Runnable.{CanRun}
use Rattle.cecil_top.specs.declared.actor.Actor.{Actor}
use Rattle.cecil_top.specs.declared.said.Said.{Said}
use Rattle.cecil_top.specs.inner.Passes.{ExplainsSoFar, HasPasses, Shared}

-- the first n commands are done, and these rows were made
pub record AreDoneTo (modules : ℕ) (given done : List Command) (said : List Said) (made : List (Option Token)) (n : ℕ) :
    Type 0 where
  pub as_many : length done ≡ n
  pub answered : length said ≡ n
  pub replaced :
      (c : ℕ) (asked command : Command) → slice_get given c ≡ Some asked → slice_get done c ≡ Some command
      → command ≡ replaced_command (map said_token (take c said)) asked
  pub followed :
      (c : ℕ) (command : Command) (a : Said) → slice_get done c ≡ Some command → slice_get said c ≡ Some a
      → IsFollowedBy modules command a
  pub made_is : made ≡ map said_token said

-- few modules and commands, each of which can be run
abbrev pub FitModules : List Shared → List Command → Type 0
FitModules modules cs = (length modules ≤ 16) × (length cs ≤ 4096) × All (CanRun (length modules)) cs

-- an actor that has done nothing
pub record IsReady (modules : List Shared) (a : Actor) : Type 0 where
  pub passes : HasPasses modules a.number a.passes
  pub fit : FitModules modules a.given
  pub none_done : a.commands ≡ []
  pub none_said : a.said ≡ []
  pub so_far : ExplainsSoFar modules a.number [] a.passes

-- an actor that has done all, unless it is short of memory
pub record HasRun (modules : List Shared) (old new : Actor) : Type 0 where
  pub number : new.number ≡ old.number
  pub passes : HasPasses modules new.number new.passes
  pub done : new.short ≡ false → AreDone (length modules) old.given new.commands new.said
  pub explained : new.short ≡ false → ExplainsSoFar modules new.number (acts_of new.commands new.said) new.passes

pub record AllHaveRun (modules : List Shared) (old new : List Actor) : Type 0 where
  pub as_many : length new ≡ length old
  pub each :
      (i : ℕ) (a x : Actor) → slice_get old i ≡ Some a → slice_get new i ≡ Some x → HasRun modules a x
