use Rattle.std.proofs.Common.{length}
use Rattle.job_text.proofs.cell.+given_cells_from.Given as goal

abbrev pub decreases-given_cells_from : goal.decreases-given_cells_from
decreases-given_cells_from l = length l.columns.now
