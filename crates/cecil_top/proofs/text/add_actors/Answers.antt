use Rattle.std.proofs.Common.{◌∙◌, arith}
use Rattle.cecil_top.proofs.TextLemmas.{actors_next, actors_whole}
use Rattle.cecil_top.proofs.text.add_actors.Goals as goal

pub loop-number-preserved : goal.loop-number-preserved
loop-number-preserved c =
    actors_next c.loop-number.text c.add_actor.new.text c.loop-number.number c.args.actors.now c.index-actors-number.result
    (omega arith) c.index-actors-number.is c.in_ok-add_actor.ensures
    ∙ c.loop-number.invariant

pub returns : goal.returns
returns c =
    actors_whole c.loop-number.text _ c.loop-number.number c.args.actors.now (omega arith) c.loop-number.invariant
