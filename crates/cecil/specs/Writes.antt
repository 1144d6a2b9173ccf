-- What a writer holds after a write, and what is told of a status, where the writer tells its bytes.
use Rattle.std.specs.Prelude.{ℕ, ◌≤◌, ◌⊎◌, List, Option, length, take, codes}
use Rattle.std.specs.Io.KnownBytes.{Appends}
use Rattle.cecil_inspect.specs.Statuses.{status_text}
use Rattle.cecil_inspect.specs.Lines.{line}
use Rattle.cecil_inspect.specs.declared.status.Status.{Status}

-- a part of the bytes was added, from their front
abbrev pub AppendsPart : Option (List ℕ) → Option (List ℕ) → List ℕ → Type 0
AppendsPart old new bytes = (n : ℕ) × (n ≤ length bytes) × Appends old new (take n bytes)

-- the line of the status was added, or that of want of memory
abbrev pub Tells : Option (List ℕ) → Option (List ℕ) → Status → Type 0
Tells old new status = Appends old new (line (status_text status)) ⊎ Appends old new (line (codes "cecil: no memory"))
