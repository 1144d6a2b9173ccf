use Rattle.std.proofs.Common.{take}
use Rattle.std.specs.List.{AllByRecursion}
use Rattle.graph_facts.specs.OfTypes.{CellOfType}
use Rattle.graph_facts.proofs.types.cells_of_type.Given as goal

abbrev pub invariant-loop-cell : goal.invariant-loop-cell
invariant-loop-cell l = AllByRecursion CellOfType (take l.cell-index l.cells)
