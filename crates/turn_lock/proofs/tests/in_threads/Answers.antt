use Rattle.std.proofs.Common.{rules}
use Rattle.turn_lock.proofs.Passes.{all_back, fresh_all}
use Rattle.turn_lock.proofs.tests.in_threads.Goals as goal

pub run_all-requires : goal.run_all-requires
run_all-requires g c = (search rules, fresh_all c.in_ok-lock.lock c.in_ok-lock.passes (search rules))

pub close-callers-requires : goal.close-callers-requires
close-callers-requires g c = all_back c.in_ok-lock.lock c.in_ok-lock.passes c.in_ok-back.back (search rules) c.in_ok-back.ensures
