use Rattle.cil_gen.proofs.OpenFacts.{laid, whole}
use Rattle.cil_gen.proofs.laws.small_image_opens.Goals as goal

pub returns : goal.returns
returns c = record { laid = laid; whole = whole }
