use Rattle.std.proofs.Common.{◌≡◌}
use Rattle.turn_lock.specs.Passes.{IsPassOf}
use Rattle.shared_module.specs.Adds.{AddsFills, IsForEdit}
use Rattle.shared_module.proofs.shared.SharedModule.edit_rounds.Given as goal

-- the pass is the caller's, and it has added fills for the edit
abbrev pub invariant-loop : goal.invariant-loop
invariant-loop g l =
    IsPassOf l.self l.own × (l.own.number ≡ l.fn.pass.number) × AddsFills l.by (IsForEdit l.self.base l.edit) l.fn.pass.seen l.own.seen
