use Rattle.std.proofs.Common.{◌≡◌}
use Rattle.turn_lock.specs.Passes.{IsPassOf}
use Rattle.shared_cases.proofs.turns.all_steps.Given as goal

-- the pass is the caller's
abbrev pub invariant-loop-number : goal.invariant-loop-number
invariant-loop-number g l = IsPassOf l.shared l.pass × (l.pass.number ≡ l.fn.pass.number)
