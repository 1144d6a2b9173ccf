-- What the record of a run explains: every answer to every actor, by one history of each module.
use Rattle.std.specs.Prelude.{◌≡◌, ℕ, ◌<◌, List, All, length, map, slice_get, take, Some}
use Rattle.job_text.specs.References.{replaced_command}
use Rattle.job_text.specs.declared.command.Command.{Command}
use Rattle.lazy_core.specs.History.{entry_caller}
use Rattle.lazy_core.specs.Legal.{Legal}
use Rattle.lazy_core.specs.Slots.{CoreState}
use Rattle.cecil_top.specs.Acts.{acts_of}
use Rattle.cecil_top.specs.Commands.{said_token}
use Rattle.cecil_top.specs.Explained.{ExplainsCaller}
use Rattle.cecil_top.specs.Following.{IsFollowedBy}
use Rattle.cecil_top.specs.declared.record.ActorRecord.{ActorRecord}
use Rattle.cecil_top.specs.declared.record.RunRecord.{RunRecord}
use Rattle.cecil_top.specs.declared.said.Said.{Said}

-- An actor did each of its commands, once, and each was answered. A back reference stood for the token that the command
-- of its number made, or for the root. A reference is followed, or an attribute read, as the replies tell.
pub record AreDone (modules : ℕ) (given done : List Command) (said : List Said) : Type 0 where
  pub as_many : length done ≡ length given
  pub answered : length said ≡ length given
  pub replaced :
      (n : ℕ) (asked command : Command) → slice_get given n ≡ Some asked → slice_get done n ≡ Some command
      → command ≡ replaced_command (map said_token (take n said)) asked
  pub followed :
      (n : ℕ) (command : Command) (a : Said) → slice_get done n ≡ Some command → slice_get said n ≡ Some a
      → IsFollowedBy modules command a

-- The record of a run of these commands, a list for each actor, over these images. Modules and actors go by their
-- numbers.
pub record Explains (images : List (List ℕ)) (given : List (List Command)) (r : RunRecord) : Type 0 where
  -- a module for each image, and what was said to each actor
  pub bytes : map (λ (core : CoreState). core.bytes) r.cores ≡ images
  pub actors : length r.actors ≡ length given
  -- each history is legal, and each of its entries is of an actor
  pub legal : All (λ (core : CoreState). Legal core.bytes core.history) r.cores
  pub callers : All (λ (core : CoreState). All (λ e. entry_caller e < length given) core.history) r.cores
  -- each actor did its own commands
  pub done :
      (i : ℕ) (cs : List Command) (actor : ActorRecord) → slice_get given i ≡ Some cs
      → slice_get r.actors i ≡ Some actor → AreDone (length images) cs actor.commands actor.said
  -- and the history of each module explains what was said to each actor about it
  pub explained :
      (m i : ℕ) (core : CoreState) (actor : ActorRecord) → slice_get r.cores m ≡ Some core
      → slice_get r.actors i ≡ Some actor
      → ExplainsCaller core.bytes i m (acts_of actor.commands actor.said) core.history
