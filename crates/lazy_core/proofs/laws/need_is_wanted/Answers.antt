use Rattle.lazy_core.proofs.WantedLemmas.{needed}
use Rattle.lazy_core.proofs.laws.need_is_wanted.Goals as goal

pub returns : goal.returns
returns c = needed
