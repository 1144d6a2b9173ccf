use Rattle.cil_gen.proofs.DoneLemmas.{each_looks}
use Rattle.cil_gen.proofs.laws.each_looks_at_one.Goals as goal

pub returns : goal.returns
returns c = each_looks
