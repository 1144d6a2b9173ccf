use Rattle.lazy_core.proofs.AnswerLemmas.{skipped_exactly}
use Rattle.lazy_core.proofs.step_laws.skipped_exactly.Goals as goal

pub returns : goal.returns
returns c = skipped_exactly
