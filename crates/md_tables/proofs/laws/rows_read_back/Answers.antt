use Rattle.md_tables.proofs.WrittenLemmas as written
use Rattle.md_tables.proofs.laws.rows_read_back.Goals as goal

pub returns : goal.returns
returns c = written.rows_read_back
