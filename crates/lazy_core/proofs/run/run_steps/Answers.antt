use Rattle.std.proofs.Common.{◌≡◌, ◌<◌, ◌≤◌, ◌∙◌, ap, length, take, arith, rules}
use Rattle.std.proofs.lemmas.List.{length-take}
use Rattle.lazy_core.proofs.RunLemmas.{all_so_far, as_many, step_more}
use Rattle.lazy_core.proofs.run.run_steps.Goals as goal

pub take_step-requires : goal.take_step-requires
take_step-requires c =
    all_so_far c.args.core.bytes c.args.core.history (take c.loop-step.step-index c.args.steps.now) c.loop-step.core.bytes c.loop-step.core.history c.as_slice.result.now
    c.loop-step.invariant.bytes c.loop-step.invariant.history (c.as_slice.ensures ∙ c.loop-step.invariant.wants)

pub loop-step-preserved : goal.loop-step-preserved
loop-step-preserved c =
    let within : c.loop-step.step-index < length c.args.steps.now = search rules in
    let more = step_more c.args.core.bytes c.args.core.history c.args.steps.now c.loop-step.step-index c.step-item.result c.loop-step.core.bytes c.loop-step.core.history c.loop-step.answers
    c.loop-step.wants c.as_slice.result.now within (search rules) c.loop-step.invariant.bytes c.loop-step.invariant.history c.loop-step.invariant.answers c.loop-step.invariant.wants c.as_slice.ensures in
    record {
      bytes = c.in_ok-answer.ensures.image ∙ c.loop-step.invariant.bytes;
      history = c.in_ok-answer.ensures.history ∙ more.0;
      answers = rw (c.in_ok-push.ensures.ok, c.in_ok-answer.ensures.answer) more.1;
      wants = rw (c.in_ok-push-2.ensures.ok, c.in_ok-answer.ensures.want) more.2;
    }

pub returns-clause-count : goal.returns-clause-count
returns-clause-count c =
    let many : length c.loop-step.answers ≡ length (take c.loop-step.step-index c.args.steps.now) =
    ap length c.loop-step.invariant.answers ∙ as_many c.args.core.bytes c.args.core.history (take c.loop-step.step-index c.args.steps.now) in
    let all : length c.args.steps.now ≤ c.loop-step.step-index = search rules in
    omega (arith, many, all, length-take c.loop-step.step-index c.args.steps.now)
