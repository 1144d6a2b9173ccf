use denote.Param.Send.{sendable}
use Rattle.std.proofs.Crossing.{crosses}
use Rattle.lazy_core.proofs.SendLemmas.{core_send}
use Rattle.node_read.proofs.image.Image.TheSendSync as image
use Rattle.turn_lock.proofs.lock.TurnLock.TheSendSync as lock
use Rattle.turn_lock.proofs.pass.Pass.TheSendSync as pass
use Rattle.shared_module.proofs.laws.modules_are_shared.Goals as goal

pub is_shared-requires-sync-T : goal.is_shared-requires-sync-T
is_shared-requires-sync-T c κs = search (core_send, lock.the_sync, image.the_send, image.the_sync, crosses, sendable) depth 60 fits 20000

pub may_move-requires-send-T : goal.may_move-requires-send-T
may_move-requires-send-T c κs = search (core_send, lock.the_send, image.the_send, image.the_sync, crosses, sendable) depth 60 fits 20000

pub may_move-requires-2-send-T : goal.may_move-requires-2-send-T
may_move-requires-2-send-T c κs = search (core_send, pass.the_send, crosses, sendable) depth 60 fits 20000
