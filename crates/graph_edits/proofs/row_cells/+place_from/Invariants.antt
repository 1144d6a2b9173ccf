use Rattle.std.proofs.Common.{length}
use Rattle.graph_edits.proofs.row_cells.+place_from.Given as goal

abbrev pub decreases-place_from : goal.decreases-place_from
decreases-place_from l = length l.columns.now
