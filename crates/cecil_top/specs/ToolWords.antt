-- The words that the program takes: `run JOB`, and those of `inspect`.
use Rattle.std.specs.Prelude.{◌≡◌, List, [], ◌∷◌, ℕ, Option, Some, None, codes, ◌&&◌, if◌then◌else◌}
use Rattle.std.specs.Str.{bytes_eq}
use Rattle.cecil_inspect.specs.Words.{asked, is_name}

-- the name of the job file that the words give; none where they do not ask for a run
abbrev pub job_asked : List (List ℕ) → Option (List ℕ)
job_asked (command ∷ name ∷ []) = if bytes_eq command (codes "run") && is_name name then Some name else None
job_asked _ = None

-- the words are not in the grammar
abbrev pub AreNoWords : List (List ℕ) → Type 0
AreNoWords words = (job_asked words ≡ None) × (asked words ≡ None)
