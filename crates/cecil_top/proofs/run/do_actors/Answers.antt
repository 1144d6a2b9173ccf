use denote.Param.Send.{sendable}
use Rattle.cecil_top.proofs.SendLemmas.{actor_send}
use Rattle.cecil_top.proofs.run.do_actors.Goals as goal

pub for_each_mut-requires-send-T : goal.for_each_mut-requires-send-T
for_each_mut-requires-send-T g c κs within = search (actor_send, sendable)
