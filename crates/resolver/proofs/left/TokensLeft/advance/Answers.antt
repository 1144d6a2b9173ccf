use Rattle.std.proofs.Common.{sym, ◌∙◌, ap, drop}
use Rattle.resolver.proofs.LeftLemmas.{one_passed}
use Rattle.resolver.proofs.left.TokensLeft.advance.Goals as goal

pub returns-then-self-len : goal.returns-then-self-len
returns-then-self-len c = sym (one_passed c.self.inside.tokens c.self.inside.passed) ∙ ap (drop 1) c.self.view_is
