use Rattle.attr_blob.proofs.AttrLemmas.{value_exactly, unknown_exactly}
use Rattle.attr_blob.proofs.laws.attr_is_what_is_spelled.Goals as goal

pub returns : goal.returns
returns c = record { value = value_exactly; unknown = unknown_exactly }
