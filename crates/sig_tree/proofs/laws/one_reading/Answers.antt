use Rattle.sig_tree.proofs.Trees.{one_reading}
use Rattle.sig_tree.proofs.laws.one_reading.Goals as goal

pub returns : goal.returns
returns c = λ plain a b bytes h k. one_reading plain a b bytes h k
