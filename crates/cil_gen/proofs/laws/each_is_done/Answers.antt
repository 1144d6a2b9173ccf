use Rattle.cil_gen.proofs.DoneLemmas.{each_done}
use Rattle.cil_gen.proofs.laws.each_is_done.Goals as goal

pub returns : goal.returns
returns c = each_done
