use Rattle.md_tables.proofs.RefusalLemmas as refusals
use Rattle.md_tables.proofs.laws.whole_is_not_refused.Goals as goal

pub returns : goal.returns
returns c = refusals.whole_is_not_refused
