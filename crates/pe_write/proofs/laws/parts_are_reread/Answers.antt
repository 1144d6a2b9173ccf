use Rattle.pe_write.proofs.OpenLemmas as lemmas
use Rattle.pe_write.proofs.laws.parts_are_reread.Goals as goal

pub returns : goal.returns
returns c = lemmas.parts_are_reread
