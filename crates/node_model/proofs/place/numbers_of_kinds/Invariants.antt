use Rattle.std.proofs.Common.{◌≡◌, ◌<◌, ℕ, get_or, length}
use Rattle.node_model.specs.Places.{number_of_kinds}
use Rattle.node_model.proofs.place.numbers_of_kinds.Given as goal

-- the numbers so far
abbrev pub invariant-loop-table : goal.invariant-loop-table
invariant-loop-table l = (length l.numbers ≡ 64) × ((k : ℕ) → k < l.table → get_or l.numbers k 0 ≡ number_of_kinds k)
