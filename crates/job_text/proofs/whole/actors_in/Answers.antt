use Rattle.std.proofs.Common.{◌≡◌, ◌+◌, ◌∙◌, ap, sym, length, map, get_or, arith}
use Rattle.std.proofs.lemmas.List.{length-map}
use Rattle.serde_json.specs.View.{view}
use Rattle.job_text.proofs.JobLemmas.{actor_next, long_none, one_actor_more}
use Rattle.job_text.specs.Shape.{items}
use Rattle.job_text.proofs.whole.actors_in.Goals as goal

pub commands_in-requires : goal.commands_in-requires
commands_in-requires c =
    let v = get_or c.args.actors.now c.loop-actor.actor-index c.actor-item.result in
    let e : map view c.items.result.now ≡ items (view v) = c.items.ensures ∙ ap (λ v. items (view v)) c.actor-item.is in
    let n : length c.items.result.now ≡ length (items (view v)) = sym (length-map c.items.result.now view) ∙ ap length e in
    let h = long_none c.args.actors.now c.loop-actor.actor-index c.actor-item.result c.requires.short c.loop-actor-test.true in
    omega (arith, n, h)

pub loop-actor-preserved : goal.loop-actor-preserved
loop-actor-preserved c = record {
  count = ap length c.in_ok-push-in-Ok.ensures.ok ∙ (one_actor_more c.loop-actor.all c.in-Ok.commands ∙ ap (λ n. n + 1) c.loop-actor.invariant.count);
  same = grind (arith, actor_next);
}
