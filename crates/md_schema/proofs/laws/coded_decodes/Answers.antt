use Rattle.md_schema.proofs.CodedLemmas as lemmas
use Rattle.md_schema.proofs.laws.coded_decodes.Goals as goal

pub returns : goal.returns
returns c = lemmas.coded-decodes
