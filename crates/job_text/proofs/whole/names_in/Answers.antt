-- The texts so far and one more.
use Rattle.std.proofs.Common.{sym, subst, arith}
use Rattle.std.proofs.lemmas.Grind.{common_steps}
use Rattle.std.proofs.lemmas.List.Elements.{All-push}
use Rattle.std.specs.List.{All}
use Rattle.std.specs.Prelude.{IsUtf8}
use Rattle.job_text.proofs.whole.names_in.Goals as goal

pub loop-value-preserved : goal.loop-value-preserved
loop-value-preserved c = record {
  same = grind (arith, common_steps);
  texts = subst (All IsUtf8) (sym c.in_ok-push.ensures.ok) (All-push IsUtf8 c.loop-value.names c.in_ok-given_name.field-0 c.loop-value.invariant.texts c.in_ok-given_name.ensures.text);
}
