use Rattle.sig_tree.proofs.Tokens.{tree_tokens}
use Rattle.sig_tree.proofs.laws.replaced_tokens.Goals as goal

pub returns : goal.returns
returns c = λ sig ts h. tree_tokens sig ts h
