use Rattle.std.proofs.Common.{length}
use Rattle.graph_edits.proofs.row_change.+lists_without.Given as goal

abbrev pub decreases-lists_without : goal.decreases-lists_without
decreases-lists_without l = length l.lists
