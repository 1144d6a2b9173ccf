use Rattle.std.proofs.Common.{sym, ◌∙◌}
use Rattle.graph_edits.proofs.SlotLemmas.{begins_by}
use Rattle.graph_edits.proofs.commit.begin_one.Goals as goal

pub returns-clause-new : goal.returns-clause-new
returns-clause-new c =
    begins_by c.args.slots.now c.put_once.new.self c.args.row.now c.args.sig.now c.args.key.now c.in-Some.slot c.in_ok-is_new.is_new
    (sym c.in_ok-slot.ensures ∙ c.in-Some.is) c.in_ok-is_new.ensures.free c.in_ok-is_new.ensures.slots
