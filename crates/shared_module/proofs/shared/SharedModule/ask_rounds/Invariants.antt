use Rattle.std.proofs.Common.{◌≡◌}
use Rattle.turn_lock.specs.Passes.{IsPassOf}
use Rattle.shared_module.specs.Adds.{AddsFills, IsForQuery}
use Rattle.shared_module.proofs.shared.SharedModule.ask_rounds.Given as goal

-- the pass is the caller's, and it has added fills for the query
abbrev pub invariant-loop : goal.invariant-loop
invariant-loop g l =
    IsPassOf l.self l.own × (l.own.number ≡ l.fn.pass.number) × AddsFills l.by (IsForQuery l.query) l.fn.pass.seen l.own.seen
