use Rattle.std.proofs.Common.{◌≡◌, take}
use Rattle.job_text.proofs.job.copy_actors.Given as goal

-- the actors so far
abbrev pub invariant-loop-commands : goal.invariant-loop-commands
invariant-loop-commands l = l.all ≡ take l.commands-index l.actors
