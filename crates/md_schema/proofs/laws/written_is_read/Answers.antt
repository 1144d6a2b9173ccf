use Rattle.md_schema.proofs.SpellingLemmas as spelling
use Rattle.md_schema.proofs.laws.written_is_read.Goals as goal

pub returns : goal.returns
returns c = spelling.written_is_read
