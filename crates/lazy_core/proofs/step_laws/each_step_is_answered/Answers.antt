use Rattle.lazy_core.proofs.AnswerLemmas.{each_is_answered}
use Rattle.lazy_core.proofs.step_laws.each_step_is_answered.Goals as goal

pub returns : goal.returns
returns c = each_is_answered
