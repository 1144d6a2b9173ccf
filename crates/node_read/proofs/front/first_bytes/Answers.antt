use Rattle.cil_base.proofs.EntryLemmas.{got-first}
use Rattle.node_read.proofs.front.first_bytes.Goals as goal

pub returns : goal.returns
returns c = got-first c.get.result c.args.bytes.now c.args.size c.get.ensures.lookup.0
