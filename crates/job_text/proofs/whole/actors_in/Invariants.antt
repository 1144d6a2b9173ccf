use Rattle.std.proofs.Common.{◌≡◌, [], drop, map, length}
use Rattle.serde_json.specs.View.{view}
use Rattle.job_text.specs.Job.{actors_from}
use Rattle.job_text.proofs.whole.actors_in.Given as goal

-- the actors to come go on from those before
abbrev pub invariant-loop-actor : goal.invariant-loop-actor
invariant-loop-actor l = record {
  count : length l.all ≡ l.actor-index;
  same : actors_from l.modules l.all (map view (drop l.actor-index l.actors)) ≡ actors_from l.modules [] (map view l.actors);
}
