use Rattle.md_write.proofs.ReadLemmas as read
use Rattle.md_write.proofs.laws.links_read.Goals as goal

pub returns : goal.returns
returns c = read.links_read
