use Rattle.std.proofs.Common.{◌∙◌, arith}
use Rattle.cecil_top.proofs.TextLemmas.{histories_next, histories_whole}
use Rattle.cecil_top.proofs.text.add_histories.Goals as goal

pub loop-home-preserved : goal.loop-home-preserved
loop-home-preserved c =
    histories_next c.loop-home.text c.add_history.new.text c.loop-home.home c.args.cores.now c.index-cores-home.result
    (omega arith) c.index-cores-home.is c.in_ok-add_history.ensures
    ∙ c.loop-home.invariant

pub returns : goal.returns
returns c =
    histories_whole c.loop-home.text _ c.loop-home.home c.args.cores.now (omega arith) c.loop-home.invariant
