use Rattle.pe_write.proofs.FactsLemmas as lemmas
use Rattle.pe_write.proofs.laws.facts_are_reread.Goals as goal

pub returns : goal.returns
returns c = lemmas.facts_are_reread
