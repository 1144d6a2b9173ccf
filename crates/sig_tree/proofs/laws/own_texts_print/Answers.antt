use Rattle.sig_tree.specs.Printed.{pieces}
use Rattle.sig_tree.proofs.Names.{own_texts}
use Rattle.sig_tree.proofs.laws.own_texts_print.Goals as goal

pub returns : goal.returns
returns c = λ sig. own_texts (pieces sig)
