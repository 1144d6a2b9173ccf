use Rattle.std.proofs.Common.{◌≡◌, take}
use Rattle.node_model.proofs.value.copy_rows.Given as goal

-- the rows so far
abbrev pub invariant-loop-row : goal.invariant-loop-row
invariant-loop-row l = l.all ≡ take l.row-index l.rows
