-- What the readers of a job answer: what the definitions give, but for want of memory.
use Rattle.std.specs.Prelude.{◌≡◌, ℕ, List, Some, Result, Ok, Err, IsUtf8}
use Rattle.serde_json.specs.Data.{Data}
use Rattle.serde_json.specs.Read.{read}
use Rattle.job_text.specs.Job.{given_job}
use Rattle.job_text.specs.Parts.{Job}
use Rattle.job_text.specs.declared.command.Command.{Command}
use Rattle.job_text.specs.declared.commands.ActorFail.{ActorFail}
use Rattle.job_text.specs.declared.commands.ActorFail.TheVariants as actor_fails
use Rattle.job_text.specs.declared.job.JobFail.{JobFail}
use Rattle.job_text.specs.declared.job.JobFail.TheVariants as fails
use Rattle.job_text.specs.declared.job.JobRefusal.{JobRefusal}
use Rattle.job_text.specs.declared.job.JobRefusal.TheVariants as refusals

-- the commands of an actor, or the number of the first value that is none
abbrev pub AnswersCommands : Result (List Command) ActorFail → Result (List Command) ℕ → Type 0
AnswersCommands (Ok commands) r = r ≡ Ok commands
AnswersCommands (Err (actor_fails.NotACommand number)) r = r ≡ Err number
AnswersCommands (Err actor_fails.NoMemory) r = Unit {0}

-- the commands of all actors, or the numbers of the first value that is none
abbrev pub AnswersActors : Result (List (List Command)) JobFail → Result (List (List Command)) (ℕ × ℕ) → Type 0
AnswersActors (Ok all) r = r ≡ Ok all
AnswersActors (Err (fails.Refused (refusals.NotACommand actor command))) r = r ≡ Err (actor, command)
AnswersActors (Err (fails.Refused refusal)) r = ⊥
AnswersActors (Err fails.NoMemory) r = Unit {0}

-- the bytes are JSON of that value, as `serde_json` reads them
abbrev pub IsJson : List ℕ → Data → Type 0
IsJson text d = IsUtf8 text × (read text ≡ Some d)

-- the answer is that job, or that refusal, but for want of memory
abbrev pub AnswersJob : Result Job JobFail → Result Job JobRefusal → Type 0
AnswersJob (Ok job) r = r ≡ Ok job
AnswersJob (Err (fails.Refused refusal)) r = r ≡ Err refusal
AnswersJob (Err fails.NoMemory) r = Unit {0}

abbrev pub AnswersNotJson : Result Job JobFail → Type 0
AnswersNotJson (Ok job) = ⊥
AnswersNotJson (Err (fails.Refused refusal)) = refusal ≡ refusals.NotJson
AnswersNotJson (Err fails.NoMemory) = Unit {0}

-- NotJson where the text is no JSON, and else what its value denotes
pub record IsJobOf (text : List ℕ) (r : Result Job JobFail) : Type 0 where
  pub json : (d : Data) → IsJson text d → AnswersJob r (given_job d)
  pub not_json : ((d : Data) → ¬ IsJson text d) → AnswersNotJson r
