use Rattle.lazy_core.proofs.LawLemmas.{faults}
use Rattle.lazy_core.proofs.laws.faults_are_of_the_file.Goals as goal

pub returns : goal.returns
returns c = faults
