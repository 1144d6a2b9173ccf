use Rattle.std.proofs.Common.{◌≡◌, drop}
use Rattle.node_model.specs.EditRefusals.{first_made}
use Rattle.write_plan.specs.Refusals.{dangling_at}
use Rattle.write_plan.specs.inner.Taken.{value_kept}
use Rattle.write_plan.proofs.dangling.refuse_dangling_among.Given as goal

abbrev pub invariant-loop-key : goal.invariant-loop-key
invariant-loop-key l =
    first_made (λ k. dangling_at l.met.all k (value_kept l.kept k)) (drop l.key-index l.keys) ≡ first_made (λ k. dangling_at l.met.all k (value_kept l.kept k)) l.keys
