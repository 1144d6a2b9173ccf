use Rattle.md_write.proofs.ReadLemmas as read
use Rattle.md_write.proofs.laws.runs_read.Goals as goal

pub returns : goal.returns
returns c = read.runs_read
