use Rattle.lazy_core.proofs.LawLemmas.{fills_change}
use Rattle.lazy_core.proofs.laws.fills_change_nothing_seen.Goals as goal

pub returns : goal.returns
returns c = fills_change
