use Rattle.std.proofs.Common.{◌≡◌, length}
use Rattle.node_model.specs.NamedTokens.{cells_name}
use Rattle.node_model.specs.Nodes.{nodes_there}
use Rattle.node_model.specs.PlacedCells.{edit_cells}
use Rattle.graph_edits.specs.inner.BadNames.{first_bad}
use Rattle.graph_edits.specs.inner.CellsLeft.{cells_left}
use Rattle.graph_edits.proofs.names.bad_in_cells.Given as goal

abbrev pub invariant-loop-placed : goal.invariant-loop-placed
invariant-loop-placed l =
    first_bad (nodes_there l.rows) (cells_name (edit_cells l.edit)) ≡ first_bad (nodes_there l.rows) (cells_name (cells_left l.left))

abbrev pub decreases-loop-placed : goal.decreases-loop-placed
decreases-loop-placed l = length (cells_left l.left)
