use Rattle.std.proofs.Common.{◌≡◌, drop, map}
use Rattle.serde_json.specs.View.{view}
use Rattle.job_text.specs.Limits.{long_actor}
use Rattle.job_text.proofs.whole.long_actor.Given as goal

-- the actors to come have the first that is too long
abbrev pub invariant-loop-actor : goal.invariant-loop-actor
invariant-loop-actor l = long_actor (map view (drop l.actor-index l.actors)) ≡ long_actor (map view l.actors)
