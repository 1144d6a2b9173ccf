use Rattle.il_code.proofs.DecodedLemmas as decoded
use Rattle.il_code.proofs.laws.spells_alone.Goals as goal

pub returns : goal.returns
returns c = decoded.spells-alone
