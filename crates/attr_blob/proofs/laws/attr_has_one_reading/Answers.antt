use Rattle.attr_blob.proofs.AttrLemmas.{one_reading}
use Rattle.attr_blob.proofs.laws.attr_has_one_reading.Goals as goal

pub returns : goal.returns
returns c = λ params widths blob a b. one_reading params widths blob a b
