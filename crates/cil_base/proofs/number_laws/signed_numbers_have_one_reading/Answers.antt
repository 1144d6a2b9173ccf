use Rattle.cil_base.proofs.SignedLemmas.{same_signed, strip-spelled_signed, within-29}
use Rattle.cil_base.proofs.number_laws.signed_numbers_have_one_reading.Goals as goal

pub returns : goal.returns
returns c = record { one = same_signed; shortest = λ z r low high. strip-spelled_signed z r (within-29 z low high) }
