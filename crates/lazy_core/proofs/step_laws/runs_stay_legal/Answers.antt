use Rattle.lazy_core.proofs.LegalLemmas.{stay_legal}
use Rattle.lazy_core.proofs.step_laws.runs_stay_legal.Goals as goal

pub returns : goal.returns
returns c = stay_legal
