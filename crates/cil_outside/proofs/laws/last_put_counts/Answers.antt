use Rattle.cil_outside.proofs.PutLemmas.{last_counts}
use Rattle.cil_outside.proofs.laws.last_put_counts.Goals as goal

pub returns : goal.returns
returns c = last_counts
