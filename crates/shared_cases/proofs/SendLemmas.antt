-- Threads may share a module.
use denote.Param.Send.{IsSync, sendable}
use Rattle.std.proofs.Crossing.{crosses}
use Rattle.lazy_core.proofs.SendLemmas.{core_send}
use Rattle.node_read.proofs.image.Image.TheSendSync as image
use Rattle.shared_module.specs.contracts.shared.SharedModule as shared
use Rattle.turn_lock.proofs.lock.TurnLock.TheSendSync as lock

pub module_sync : IsSync shared.the_row
module_sync = search (core_send, lock.the_sync, image.the_send, image.the_sync, crosses, sendable) depth 60 fits 20000
