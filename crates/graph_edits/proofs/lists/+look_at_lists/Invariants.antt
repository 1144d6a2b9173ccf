use Rattle.std.proofs.Common.{length}
use Rattle.graph_edits.proofs.lists.+look_at_lists.Given as goal

abbrev pub decreases-look_at_lists : goal.decreases-look_at_lists
decreases-look_at_lists l = length l.keys.now
