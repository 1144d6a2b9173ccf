use Rattle.node_model.specs.Places.{slot_at}
use Rattle.lazy_core.specs.inner.Replies.{AreRead}
use Rattle.lazy_core.proofs.direct.several_reply.Given as goal

-- what was read so far
abbrev pub invariant-loop : goal.invariant-loop
invariant-loop l = AreRead l.fn.image (slot_at l.slots)
