use Rattle.lazy_core.proofs.TryLemmas.{need_has_last}
use Rattle.lazy_core.proofs.TryWantLemmas.{try_needed}
use Rattle.lazy_core.proofs.laws.try_need_is_wanted.Goals as goal

pub returns-clause-last : goal.returns-clause-last
returns-clause-last c = need_has_last

pub returns-clause-wanted : goal.returns-clause-wanted
returns-clause-wanted c = try_needed
