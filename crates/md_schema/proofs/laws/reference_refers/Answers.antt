use Rattle.md_schema.proofs.ReferenceLemmas as lemmas
use Rattle.md_schema.proofs.laws.reference_refers.Goals as goal

pub returns : goal.returns
returns c = lemmas.reference-refers
