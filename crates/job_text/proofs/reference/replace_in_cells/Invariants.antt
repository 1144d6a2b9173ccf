use Rattle.std.proofs.Common.{◌≡◌, map, take}
use Rattle.job_text.specs.References.{replaced_cell}
use Rattle.job_text.proofs.reference.replace_in_cells.Given as goal

-- the cells so far
abbrev pub invariant-loop-cell : goal.invariant-loop-cell
invariant-loop-cell l = l.all ≡ map (replaced_cell l.made) (take l.cell-index l.cells)
