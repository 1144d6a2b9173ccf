-- The limits of a job.
use Rattle.std.specs.Prelude.{ℕ, List, Option, Some, nat_lt, find, if◌then◌else◌, length, map}
use Rattle.serde_json.specs.Data.{Data}
use Rattle.job_text.specs.Shape.{items}
use Rattle.job_text.specs.Tokens.{most_commands}

abbrev pub most_images : ℕ
most_images = 16

abbrev pub most_actors : ℕ
most_actors = 64

-- the first number of an actor's commands that passes its limit
unfoldable pub long_actor : List Data → Option ℕ
long_actor actors = find (λ n. nat_lt most_commands n) (map (λ d. length (items d)) actors)

-- the first count that passes its limit: of modules, of actors, of writes, of the commands of each actor
unfoldable pub over_limit : ℕ → List Data → ℕ → Option ℕ
over_limit modules actors writes =
    if nat_lt most_images modules then Some modules
    else (if nat_lt most_actors (length actors) then Some (length actors)
    else (if nat_lt most_images writes then Some writes else long_actor actors))
