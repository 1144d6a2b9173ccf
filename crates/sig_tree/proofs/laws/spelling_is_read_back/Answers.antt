use Rattle.sig_tree.specs.Spelling.{symbols}
use Rattle.sig_tree.proofs.SpelledBack.{spelled_back}
use Rattle.sig_tree.proofs.laws.spelling_is_read_back.Goals as goal

pub returns : goal.returns
returns c = λ sig r h. spelled_back (symbols sig) r h.spellable
