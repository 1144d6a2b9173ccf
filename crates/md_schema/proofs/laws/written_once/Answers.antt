use Rattle.md_schema.proofs.SpellingLemmas as lemmas
use Rattle.md_schema.proofs.laws.written_once.Goals as goal

pub returns : goal.returns
returns c = lemmas.written_once
