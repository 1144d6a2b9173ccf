use Rattle.std.proofs.Common.{◌≡◌, take}
use Rattle.lazy_core.specs.Run.{run}
use Rattle.lazy_core.proofs.run.run_steps.Given as goal

-- the steps so far
abbrev pub invariant-loop-step : goal.invariant-loop-step
invariant-loop-step l = record {
  bytes : l.core.bytes ≡ l.fn.core.bytes;
  history : l.core.history ≡ (run l.fn.core.bytes l.fn.core.history (take l.step-index l.steps)).history;
  answers : l.answers ≡ (run l.fn.core.bytes l.fn.core.history (take l.step-index l.steps)).answers;
  wants : l.wants ≡ (run l.fn.core.bytes l.fn.core.history (take l.step-index l.steps)).wants;
}
