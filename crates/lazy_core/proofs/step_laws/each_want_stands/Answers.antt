use Rattle.lazy_core.proofs.WantsLemmas.{each_stands}
use Rattle.lazy_core.proofs.step_laws.each_want_stands.Goals as goal

pub returns : goal.returns
returns c = each_stands
