use Rattle.std.proofs.Common.{◌≡◌, take, map}
use Rattle.serde_json.specs.View.{view}
use Rattle.job_text.specs.Job.{given_write}
use Rattle.job_text.proofs.write.writes_in.Given as goal

-- the writes so far
abbrev pub invariant-loop-value : goal.invariant-loop-value
invariant-loop-value l = l.writes ≡ map (given_write l.modules) (map view (take l.value-index l.values))
