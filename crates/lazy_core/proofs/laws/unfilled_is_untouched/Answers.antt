use Rattle.lazy_core.proofs.LawLemmas.{unfilled}
use Rattle.lazy_core.proofs.laws.unfilled_is_untouched.Goals as goal

pub returns : goal.returns
returns c = unfilled
