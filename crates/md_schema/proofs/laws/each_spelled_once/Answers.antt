use Rattle.md_schema.proofs.SpellingLemmas as spelling
use Rattle.md_schema.proofs.laws.each_spelled_once.Goals as goal

pub returns : goal.returns
returns c = spelling.each_spelled_once
