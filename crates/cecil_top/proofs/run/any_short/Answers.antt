use Rattle.std.proofs.Common.{◌≡◌, false, rules}
use Rattle.cecil_top.specs.declared.actor.Actor.{Actor}
use Rattle.cecil_top.proofs.PlaceLemmas.{all_more, all_whole}
use Rattle.cecil_top.proofs.run.any_short.Goals as goal

pub loop-actor-preserved : goal.loop-actor-preserved
loop-actor-preserved c =
    all_more (λ (a : Actor). a.short ≡ false) c.args.actors.now c.loop-actor.actor-index c.actor-item.result (search rules) c.actor-item.is c.loop-actor.invariant (search rules)

pub returns : goal.returns
returns c = λ long. all_whole (λ (a : Actor). a.short ≡ false) c.args.actors.now c.loop-actor.actor-index (search rules) c.loop-actor.invariant
