use Rattle.std.proofs.Common.{Some}
use Rattle.graph_edits.proofs.SlotLemmas.{changed}
use Rattle.graph_edits.proofs.commit.write.Goals as goal

pub returns-clause-slots : goal.returns-clause-slots
returns-clause-slots c = changed c.args.slots.now c.replace.new.self c.args.key (Some c.args.slot) c.in-Ok.ensures.slots
