use Rattle.sig_tree.proofs.Trees as trees
use Rattle.sig_tree.proofs.laws.tree_reads.Goals as goal

pub returns : goal.returns
returns c = λ plain bytes sig. (trees.tree_reads plain bytes sig, trees.tree_full plain bytes sig)
