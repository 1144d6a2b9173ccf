use Rattle.pe_write.proofs.OpenLemmas as lemmas
use Rattle.pe_write.proofs.laws.resources_are_reread.Goals as goal

pub returns : goal.returns
returns c = lemmas.resources_are_reread
