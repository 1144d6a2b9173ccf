use Rattle.std.proofs.Common.{◌≡◌, ◌≤◌, ◌<◌, ℕ, get_or, length, not, true}
use Rattle.resolver.specs.EnumNames.{is_dot}
use Rattle.resolver.proofs.enum_names.name_start.Given as goal

-- no point stands behind the place
abbrev pub invariant-loop-start : goal.invariant-loop-start
invariant-loop-start l = (l.start ≤ length l.text) × ((k : ℕ) → l.start ≤ k → k < length l.text → not (is_dot (get_or l.text k 0)) ≡ true)

abbrev pub decreases-loop-start : goal.decreases-loop-start
decreases-loop-start l = l.start
