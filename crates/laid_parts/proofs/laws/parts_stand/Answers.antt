use Rattle.laid_parts.proofs.PartLemmas as parts
use Rattle.laid_parts.proofs.laws.parts_stand.Goals as goal

pub returns : goal.returns
returns c = parts.parts_stand
