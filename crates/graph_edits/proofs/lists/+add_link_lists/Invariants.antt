use Rattle.std.proofs.Common.{length}
use Rattle.graph_edits.proofs.lists.+add_link_lists.Given as goal

abbrev pub decreases-add_link_lists : goal.decreases-add_link_lists
decreases-add_link_lists l = length l.links.now
