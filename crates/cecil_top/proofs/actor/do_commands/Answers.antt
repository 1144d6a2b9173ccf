use Rattle.std.proofs.Common.{◌≡◌, ◌∙◌, ◌++◌, ◌∷◌, [], ◌<◌, sym, ap, subst, rules, length, length-append, slice_get, arith}
use Rattle.job_text.specs.References.{replaced_command}
use Rattle.job_text.specs.Runnable.{CanRun}
use Rattle.cecil_top.proofs.ActorLemmas.{next_done, next_is, replaced_runs}
use Rattle.cecil_top.proofs.PlaceLemmas.{all_at, read_at}
use Rattle.cecil_top.proofs.actor.do_commands.Goals as goal

pub do_command-requires-clause-runs : goal.do_command-requires-clause-runs
do_command-requires-clause-runs g c =
    let n = c.loop-place.place in
    let cs = c.loop-place.commands in
    let given = c.args.given.now in
    let modules = length c.args.modules.now in
    let asked = c.index-given-place.result in
    let made = c.as_slice.result.now in
    let x = c.index-as_slice-place.result in
    let many = c.loop-place.invariant.1.as_many in
    let less : n < length given = search rules in
    let at = read_at given n asked less c.index-given-place.is in
    let pushed = c.in_ok-push_replaced.ensures in
    let now = c.as_slice-in-loop-place.ensures ∙ pushed in
    let within = subst (λ l. n < length l) (sym now) (omega (arith, many, length-append cs (replaced_command made asked ∷ []))) in
    let there = ap (λ l. slice_get l n) (sym c.as_slice-in-loop-place.ensures) ∙ read_at c.as_slice-in-loop-place.result.now n x within c.index-as_slice-place.is in
    subst (CanRun modules) (next_is cs c.push_replaced.new.commands n (replaced_command made asked) x many pushed there)
    (replaced_runs modules made asked (all_at (CanRun modules) given c.requires.fit.2 n asked at))

pub loop-place-preserved : goal.loop-place-preserved
loop-place-preserved g c =
    let n = c.loop-place.place in
    let cs = c.loop-place.commands in
    let given = c.args.given.now in
    let asked = c.index-given-place.result in
    let x = c.index-as_slice-place.result in
    let many = c.loop-place.invariant.1.as_many in
    let less : n < length given = search rules in
    let at = read_at given n asked less c.index-given-place.is in
    let pushed = subst (λ l. c.push_replaced.new.commands ≡ cs ++ replaced_command l asked ∷ []) c.as_slice.ensures c.in_ok-push_replaced.ensures in
    let now = c.as_slice-in-loop-place.ensures ∙ pushed in
    let within = subst (λ l. n < length l) (sym now) (omega (arith, many, length-append cs (replaced_command c.loop-place.made asked ∷ []))) in
    let there = ap (λ l. slice_get l n) (sym c.as_slice-in-loop-place.ensures) ∙ read_at c.as_slice-in-loop-place.result.now n x within c.index-as_slice-place.is in
    let done = next_done c.args.modules.now c.args.actor given cs c.loop-place.said c.loop-place.made n c.loop-place.passes c.do_command.new.passes
    c.loop-place.invariant.1 c.loop-place.invariant.2 asked x c.push_replaced.new.commands c.do_command.new.said c.push.new.self c.token_made_at.result
    at pushed there c.in_ok-do_command.ensures.said
    (λ a is. c.token_made_at.ensures a (ap (λ l. slice_get l n) c.as_slice-in-loop-place-2.ensures ∙ is)) c.in_ok-push.ensures.ok in
    (c.do_command.ensures.passes, done.0, done.1)
