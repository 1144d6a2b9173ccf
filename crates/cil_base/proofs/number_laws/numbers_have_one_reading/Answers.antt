use Rattle.cil_base.proofs.NumberLemmas.{same_number, strip-spelled_number}
use Rattle.cil_base.proofs.number_laws.numbers_have_one_reading.Goals as goal

pub returns : goal.returns
returns c = record { one = same_number; shortest = strip-spelled_number }
