-- What a job is made of, as values.
use Rattle.std.specs.Prelude.{ℕ, List}
use Rattle.job_text.specs.declared.command.Command.{Command}

-- an image that is written: its module's number, and its name
pub record Write : Type 0 where
  pub «module» : ℕ
  pub name : List ℕ

pub record Job : Type 0 where
  pub modules : List (List ℕ)
  pub actors : List (List Command)
  pub writes : List Write
