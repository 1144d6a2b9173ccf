use Rattle.std.proofs.Common.{length}
use Rattle.graph_edits.proofs.lists.+lists_held.Given as goal

abbrev pub decreases-lists_held : goal.decreases-lists_held
decreases-lists_held l = length l.keys.now
