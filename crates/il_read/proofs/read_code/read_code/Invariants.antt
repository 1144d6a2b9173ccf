use Rattle.std.proofs.Common.{length, ◌-◌}
use Rattle.il_read.proofs.ReadLemmas.{Read}
use Rattle.il_read.proofs.read_code.read_code.Given as goal

abbrev pub invariant-loop-place : goal.invariant-loop-place
invariant-loop-place l = Read l.users l.code l.all l.place

abbrev pub decreases-loop-place : goal.decreases-loop-place
decreases-loop-place l = length l.code - l.place
