use Rattle.std.proofs.Common.{length}
use Rattle.graph_edits.proofs.commit.+begin.Given as goal

abbrev pub decreases-begin : goal.decreases-begin
decreases-begin l = length l.keys.now
