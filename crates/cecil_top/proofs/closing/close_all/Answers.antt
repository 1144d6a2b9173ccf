use Rattle.std.proofs.Common.{◌≡◌, ◌+◌, sym, subst, rules, length}
use Rattle.cecil_top.specs.inner.Ends.{AllAreClosed, AllAreSameFrom}
use Rattle.cecil_top.proofs.CloseLemmas.{can_close_still, closed_at_first, closed_more, same_without}
use Rattle.cecil_top.proofs.PlaceLemmas.{left_then, taken_at}
use Rattle.cecil_top.proofs.closing.close_all.Goals as goal

pub close_one-requires : goal.close_one-requires
close_one-requires c =
    let n = c.loop-place.place in
    let l = c.remove-shared.result in
    let at = taken_at c.args.modules c.loop-place.modules n l c.loop-place.invariant.0 c.remove-shared.ensures.item in
    can_close_still n c.args.actors.now c.loop-place.actors c.loop-place.invariant.2 l (c.requires.all n l at)

pub loop-place-preserved : goal.loop-place-preserved
loop-place-preserved c =
    let n = c.loop-place.place in
    let l = c.remove-shared.result in
    let left = c.loop-place.invariant.0 in
    let at = taken_at c.args.modules c.loop-place.modules n l left c.remove-shared.ensures.item in (
      left_then c.args.modules c.loop-place.modules c.remove-shared.new.self n left c.remove-shared.ensures.rest,
      subst (λ cores. AllAreClosed c.args.modules c.args.actors.now cores (n + 1)) (sym c.in_ok-push.ensures.ok)
          (closed_more c.args.modules c.args.actors.now c.loop-place.cores n l c.in_ok-core.core c.loop-place.invariant.1 at
          (closed_at_first n c.args.actors.now c.loop-place.actors c.loop-place.invariant.2 l c.in_ok-core.core c.in_ok-core.ensures.core)),
      same_without n c.args.actors.now c.loop-place.actors c.loop-place.invariant.2 c.close_one.new.actors c.in_ok-core.ensures.rest,
    )

pub returns-clause-actors : goal.returns-clause-actors
returns-clause-actors c =
    let whole : c.loop-place.place ≡ length c.args.modules = search rules in
    subst (λ n. AllAreSameFrom n c.args.actors.now c.loop-place.actors) whole c.loop-place.invariant.2
