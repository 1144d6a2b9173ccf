use Rattle.cecil_top.specs.inner.Ends.{record_of}
use Rattle.cecil_top.proofs.PlaceLemmas.{left_then, mapped_more, taken_at}
use Rattle.cecil_top.proofs.closing.keep_all.Goals as goal

pub loop-at-preserved : goal.loop-at-preserved
loop-at-preserved c =
    let n = c.loop-at._at in
    let left = c.loop-at.invariant.0 in
    let a = c.remove-actor.result in
    let at = taken_at c.args.actors c.loop-at.actors n a left c.remove-actor.ensures.item in (
      left_then c.args.actors c.loop-at.actors c.remove-actor.new.self n left c.remove-actor.ensures.rest,
      mapped_more record_of c.args.actors n a c.kept.result c.loop-at.records c.push.new.self at c.kept.ensures c.loop-at.invariant.1 c.in_ok-push.ensures.ok,
    )
