use Rattle.std.proofs.Common.{length}
use Rattle.graph_edits.proofs.row_change.+lists_with.Given as goal

abbrev pub decreases-lists_with : goal.decreases-lists_with
decreases-lists_with l = length l.lists
