use Rattle.std.proofs.Common.{◌≡◌, length}
use Rattle.node_model.specs.EditRefusals.{first_made, text_refusal}
use Rattle.node_model.specs.PlacedCells.{PlacedCell, edit_cells}
use Rattle.graph_edits.specs.inner.CellsLeft.{cells_left}
use Rattle.graph_edits.proofs.cell_refusal.text_refusal.Given as goal

abbrev pub invariant-loop-placed : goal.invariant-loop-placed
invariant-loop-placed l =
    first_made (λ (c : PlacedCell). text_refusal c.cell) (edit_cells l.edit)
    ≡ first_made (λ (c : PlacedCell). text_refusal c.cell) (cells_left l.left)

abbrev pub decreases-loop-placed : goal.decreases-loop-placed
decreases-loop-placed l = length (cells_left l.left)
