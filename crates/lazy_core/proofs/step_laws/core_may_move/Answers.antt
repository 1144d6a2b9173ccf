use denote.Param.Send.{sendable}
use Rattle.lazy_core.proofs.SendLemmas.{core_send}
use Rattle.lazy_core.proofs.step_laws.core_may_move.Goals as goal

pub may_move-requires-send-T : goal.may_move-requires-send-T
may_move-requires-send-T c κs = search (core_send, sendable)
