use Rattle.std.proofs.Common.{w32, rules, arith}
use Rattle.std.proofs.lemmas.Grind.{common_steps}
use Rattle.std.proofs.lemmas.Int.{to_z-of_z}
use mir.Val.{SFits}
use Rattle.sig_read.proofs.Fuel.{fronted_more}
use Rattle.sig_read.proofs.read_number.read_lows.Goals as goal

pub loop-index-preserved : goal.loop-index-preserved
loop-index-preserved c =
    let fits : SFits w32 c.in-Some-read_low.low = search rules in
    let same = to_z-of_z w32 c.in-Some-read_low.low fits in
    grind (arith, common_steps, fronted_more, same, c.in-Some-read_low.ensures)
