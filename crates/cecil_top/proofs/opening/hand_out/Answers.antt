use Rattle.std.proofs.Common.{◌<◌, rules, length}
use Rattle.cecil_top.proofs.OpenLemmas.{handed_more}
use Rattle.cecil_top.proofs.PlaceLemmas.{left_then, read_at, taken_at}
use Rattle.cecil_top.proofs.opening.hand_out.Goals as goal

pub loop-at-preserved : goal.loop-at-preserved
loop-at-preserved c =
    let n = c.loop-at.at in
    let left = c.loop-at.invariant.0 in
    let p = c.remove-pass.result in
    let at = taken_at c.args.passes c.loop-at.passes n p left c.remove-pass.ensures.item in
    let less : n < length c.loop-at.actors = search rules in (
      left_then c.args.passes c.loop-at.passes c.remove-pass.new.self n left c.remove-pass.ensures.rest,
      handed_more c.args.passes c.args.actors.now c.loop-at.actors _ n c.index-actors-at.result p c.loop-at.invariant.1
          (read_at c.loop-at.actors n c.index-actors-at.result less c.index-actors-at.is) at (search rules),
    )
