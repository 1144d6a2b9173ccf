use Rattle.std.proofs.Common.{drop}
use Rattle.std.specs.BTreeSet.{contains_text}
use Rattle.job_text.proofs.WriteLemmas.{SeenSoFar, write_names}
use Rattle.job_text.proofs.write.all_new.Given as goal

-- the set has the names so far
abbrev pub invariant-loop-write : goal.invariant-loop-write
invariant-loop-write l =
    SeenSoFar (contains_text l.seen) (write_names (drop l.write-index l.writes)) (write_names l.writes)
