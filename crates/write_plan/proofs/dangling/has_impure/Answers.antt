use Rattle.std.proofs.Common.{◌∙◌, ap, sym, rules}
use Rattle.write_plan.specs.Refusals.{is_impure}
use Rattle.write_plan.specs.inner.Taken.{value_kept}
use Rattle.write_plan.proofs.ScanLemmas.{any_here, any_next}
use Rattle.write_plan.proofs.dangling.has_impure.Goals as goal

pub returns-then-is_impure : goal.returns-then-is_impure
returns-then-is_impure c =
    any_here (λ k. is_impure (value_kept c.args.kept.now k)) c.args.keys.now c.loop-key.key-index c.key-item.result (search rules) c.key-item.is c.loop-key.invariant
    (ap is_impure (sym c.value.ensures) ∙ sym c.is_impure.ensures ∙ c.if-is_impure.true)

pub loop-key-preserved : goal.loop-key-preserved
loop-key-preserved c =
    any_next (λ k. is_impure (value_kept c.args.kept.now k)) c.args.keys.now c.loop-key.key-index c.key-item.result (search rules) c.key-item.is c.loop-key.invariant
    (ap is_impure (sym c.value.ensures) ∙ sym c.is_impure.ensures ∙ c.if-is_impure.false)
