-- The job that a text denotes, or the first refusal.
use Rattle.std.specs.Prelude.{ℕ, List, [], ◌∷◌, ◌++◌, Option, Some, None, Result, Ok, Err, codes, length, map, unwrap_or}
use Rattle.std.specs.Prelude.{if◌then◌else◌}
use Rattle.serde_json.specs.Data.{Data}
use Rattle.job_text.specs.Commands.{commands_from}
use Rattle.job_text.specs.Limits.{over_limit}
use Rattle.job_text.specs.Parts.{Job, Write}
use Rattle.job_text.specs.Shape.{is_job, items, given_name, write_name}
use Rattle.job_text.specs.Values.{member, given_number}
use Rattle.job_text.specs.declared.command.Command.{Command}
use Rattle.job_text.specs.declared.job.JobRefusal.{JobRefusal}
use Rattle.job_text.specs.declared.job.JobRefusal.TheVariants as refusals

unfoldable pub given_write : ℕ → Data → Write
given_write modules d =
    record { «module» = unwrap_or (given_number modules (member (codes "module") d)) 0; name = write_name d }

-- goes on after an actor's commands, and ends with the numbers of the actor and of what is no command
abbrev pub after_actor : {A : Type 0} → List (List Command) → (List (List Command) → Result A (ℕ × ℕ)) → Result (List Command) ℕ → Result A (ℕ × ℕ)
after_actor before go (Ok commands) = go (before ++ commands ∷ [])
after_actor before go (Err command) = Err (length before, command)

-- the commands of each actor, after those before, or the numbers of the first that is none
unfoldable pub actors_from : ℕ → List (List Command) → List Data → Result (List (List Command)) (ℕ × ℕ)
actors_from modules before [] = Ok before
actors_from modules before (d ∷ ds) =
    after_actor before (λ more. actors_from modules more ds) (commands_from modules [] (items d))

abbrev pub with_actors : List Data → List Data → Result (List (List Command)) (ℕ × ℕ) → Result Job JobRefusal
with_actors modules writes (Ok actors) =
    Ok (record { modules = map given_name modules; actors = actors; writes = map (given_write (length modules)) writes })
with_actors modules writes (Err place) = Err (refusals.NotACommand place.0 place.1)

abbrev pub within_limits : List Data → List Data → List Data → Option ℕ → Result Job JobRefusal
within_limits modules actors writes (Some n) = Err (refusals.OverLimit n)
within_limits modules actors writes None = with_actors modules writes (actors_from (length modules) [] actors)

-- the job of the parts of a value that has the form of one
unfoldable pub job_of_parts : List Data → List Data → List Data → Result Job JobRefusal
job_of_parts modules actors writes =
    within_limits modules actors writes (over_limit (length modules) actors (length writes))

-- the job of a JSON value
unfoldable pub given_job : Data → Result Job JobRefusal
given_job d =
    if is_job d
    then job_of_parts (items (member (codes "modules") d)) (items (member (codes "actors") d)) (items (member (codes "write") d))
    else Err refusals.Shape
