use Rattle.il_edit.proofs.LawLemmas.{inserted-removed}
use Rattle.il_edit.proofs.laws.inserted_and_removed.Goals as goal

pub returns : goal.returns
returns c = inserted-removed
