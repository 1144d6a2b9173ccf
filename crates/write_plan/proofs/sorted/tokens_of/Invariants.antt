use Rattle.std.proofs.Common.{◌≡◌, map, take}
use Rattle.write_plan.specs.declared.sorted.LinkedRow.{LinkedRow}
use Rattle.write_plan.proofs.sorted.tokens_of.Given as goal

abbrev pub invariant-loop-row : goal.invariant-loop-row
invariant-loop-row l = l.tokens ≡ map (λ (r : LinkedRow). r.token) (take l.row-index l.rows)
