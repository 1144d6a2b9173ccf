use Rattle.std.proofs.Common.{◌≡◌, map, take}
use Rattle.write_plan.specs.Renamed.{cell_renamed}
use Rattle.write_plan.specs.Written.{new_token}
use Rattle.write_plan.proofs.plan.Plan.renamed_cells.Given as goal

abbrev pub invariant-loop-cell : goal.invariant-loop-cell
invariant-loop-cell l = l.new ≡ map (cell_renamed (new_token l.self.lists)) (take l.cell-index l.cells)
