use denote.Param.Send.{sendable}
use Rattle.std.proofs.Crossing.{crosses}
use Rattle.lazy_core.proofs.SendLemmas.{core_send}
use Rattle.turn_lock.proofs.pass.Pass.TheSendSync as pass
use Rattle.shared_cases.proofs.run_threads.all_callers.Goals as goal

pub map_vec-requires-send-J : goal.map_vec-requires-send-J
map_vec-requires-send-J g c κs within = search (core_send, pass.the_send, crosses, sendable) depth 60 fits 20000

pub map_vec-requires-send-X : goal.map_vec-requires-send-X
map_vec-requires-send-X g c κs within = search (core_send, pass.the_send, crosses, sendable) depth 60 fits 20000
