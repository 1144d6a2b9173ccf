use Rattle.std.proofs.Common.{◌≡◌, take}
use Rattle.job_text.proofs.job.copy_writes.Given as goal

-- the writes so far
abbrev pub invariant-loop-write : goal.invariant-loop-write
invariant-loop-write l = l.all ≡ take l.write-index l.writes
