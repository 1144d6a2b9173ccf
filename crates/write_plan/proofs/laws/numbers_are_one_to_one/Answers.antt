use Rattle.write_plan.proofs.NumberLemmas.{numbers_one_to_one}
use Rattle.write_plan.proofs.laws.numbers_are_one_to_one.Goals as goal

pub returns : goal.returns
returns c = numbers_one_to_one
