use Rattle.cil_base.proofs.TokenLemmas.{token-back, token-there}
use Rattle.cil_base.proofs.laws.tokens_are_numbers.Goals as goal

pub returns : goal.returns
returns c = record { back = token-back; there = token-there }
