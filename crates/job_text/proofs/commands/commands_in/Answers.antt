use Rattle.std.proofs.Common.{◌+◌, ◌∙◌, ap, length, arith}
use Rattle.job_text.proofs.CommandLemmas.{command_next, one_more}
use Rattle.job_text.proofs.commands.commands_in.Goals as goal

pub loop-value-preserved : goal.loop-value-preserved
loop-value-preserved c = record {
  count = ap length c.in_ok-push-in-Some.ensures.ok ∙ (one_more c.loop-value.commands c.in-Some.command ∙ ap (λ n. n + 1) c.loop-value.invariant.count);
  same = grind (arith, command_next);
}
