use Rattle.std.proofs.Common.{◌≡◌, drop}
use Rattle.std.specs.List.{list_any}
use Rattle.write_plan.specs.Refusals.{is_impure}
use Rattle.write_plan.specs.inner.Taken.{value_kept}
use Rattle.write_plan.proofs.dangling.has_impure.Given as goal

abbrev pub invariant-loop-key : goal.invariant-loop-key
invariant-loop-key l =
    list_any (λ k. is_impure (value_kept l.kept k)) (drop l.key-index l.keys) ≡ list_any (λ k. is_impure (value_kept l.kept k)) l.keys
