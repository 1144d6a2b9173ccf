use Rattle.std.proofs.Common.{◌≡◌, drop, map}
use Rattle.std.specs.List.{list_all}
use Rattle.serde_json.specs.View.{view}
use Rattle.job_text.specs.Shape.{gives_write}
use Rattle.job_text.proofs.write.give_writes.Given as goal

-- the values to come decide
abbrev pub invariant-loop-value : goal.invariant-loop-value
invariant-loop-value l =
    list_all (gives_write l.modules) (map view (drop l.value-index l.values))
    ≡ list_all (gives_write l.modules) (map view l.values)
