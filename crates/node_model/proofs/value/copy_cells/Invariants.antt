use Rattle.std.proofs.Common.{◌≡◌, take}
use Rattle.node_model.proofs.value.copy_cells.Given as goal

-- the cells so far
abbrev pub invariant-loop-cell : goal.invariant-loop-cell
invariant-loop-cell l = l.all ≡ take l.cell-index l.cells
