use Rattle.std.proofs.Common.{◌≡◌, [], drop, map}
use Rattle.serde_json.specs.View.{view}
use Rattle.job_text.specs.Operands.{given_targets_from}
use Rattle.job_text.proofs.operand.given_targets_from.Given as goal

-- the targets to come go on from those before
abbrev pub invariant-loop-value : goal.invariant-loop-value
invariant-loop-value l =
    given_targets_from l.targets (map view (drop l.value-index l.values)) ≡ given_targets_from [] (map view l.values)
