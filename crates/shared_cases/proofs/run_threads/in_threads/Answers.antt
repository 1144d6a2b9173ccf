use denote.Param.Send.{sendable}
use Rattle.std.proofs.Common.{rules}
use Rattle.turn_lock.proofs.Passes.{all_back, fresh_all}
use Rattle.shared_cases.proofs.SendLemmas.{module_sync}
use Rattle.shared_cases.proofs.run_threads.in_threads.Goals as goal

pub all_callers-requires-after_bounds : goal.all_callers-requires-after_bounds
all_callers-requires-after_bounds g c κs within = fresh_all c.in_ok-shared.shared c.in_ok-shared.passes (search rules)

pub close-requires : goal.close-requires
close-requires g c = all_back c.in_ok-shared.shared c.in_ok-shared.passes c.in_ok-back.back (search rules) c.in_ok-back.ensures

pub all_callers-requires-sync-M : goal.all_callers-requires-sync-M
all_callers-requires-sync-M g c κs within = search (module_sync, sendable)
