use Rattle.std.proofs.Common.{◌<◌, ◌∙◌, sym, subst, length, rules, arith}
use Rattle.cecil_top.specs.declared.actor.Actor.{Actor}
use Rattle.cecil_top.specs.inner.Passes.{HasPassAt}
use Rattle.cecil_top.proofs.PlaceLemmas.{read_at}
use Rattle.cecil_top.proofs.closing.take_all.Goals as goal

pub take_from-pass-requires : goal.take_from-pass-requires
take_from-pass-requires c =
    let n = c.loop-at.at in
    let a = c.index-actors-at.result in
    let less : n < length c.loop-at.actors = search rules in
    let was = sym (c.loop-at.invariant.2.behind n (omega arith)) ∙ read_at c.loop-at.actors n a less c.index-actors-at.is in
    subst (λ (x : Actor). HasPassAt x.passes c.args.place) c.index-actors-at.is (c.requires n a was)
