use Rattle.md_write.proofs.FitLemmas as fit
use Rattle.md_write.proofs.laws.numbers_fit.Goals as goal

pub returns : goal.returns
returns c = fit.numbers_fit
