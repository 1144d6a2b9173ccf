-- Which commands can be run.
use Rattle.std.specs.Prelude.{ℕ, ◌<◌, ◌≤◌, List, All, length}
use Rattle.job_text.specs.declared.command.Command.{Command}
use Rattle.job_text.specs.declared.command.Command.TheVariants as commands

-- a command on one of so many modules
abbrev pub CanRun : ℕ → Command → Type 0
CanRun modules (commands.Query m query) = m < modules
CanRun modules (commands.Edit m edit) = m < modules
CanRun modules (commands.Resolve m t) = m < modules
CanRun modules (commands.Attribute m t) = m < modules

-- a list of commands for each of a few actors, over a few modules
pub record AreRunnable (modules : ℕ) (given : List (List Command)) : Type 0 where
  pub modules_few : modules ≤ 16
  pub actors_few : length given ≤ 64
  pub commands_few : All (λ (commands : List Command). length commands ≤ 4096) given
  pub each : All (All (CanRun modules)) given
