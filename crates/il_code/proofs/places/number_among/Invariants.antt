use Rattle.std.proofs.Common.{ℕ, ◌<◌, ◌≤◌, ◌-◌, length, get_or}
use Rattle.il_code.proofs.places.number_among.Given as goal

abbrev pub invariant-loop-low : goal.invariant-loop-low
invariant-loop-low l = (l.high ≤ length l.starts) × ((k : ℕ) → k < l.low → get_or l.starts k 0 < l.place) × ((k : ℕ) → l.high ≤ k → k < length l.starts → l.place < get_or l.starts k 0)

abbrev pub decreases-loop-low : goal.decreases-loop-low
decreases-loop-low l = l.high - l.low
