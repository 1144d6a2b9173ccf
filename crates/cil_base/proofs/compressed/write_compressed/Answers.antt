use Rattle.std.proofs.Common.{arith, sym, ◌∙◌}
use Rattle.cil_base.proofs.NumberLemmas.{strip-whole_number, spells-one, spells-two, spells-four}
use Rattle.cil_base.proofs.compressed.write_compressed.Goals as goal

pub returns-then-value-lt128-clause-shortest : goal.returns-then-value-lt128-clause-shortest
returns-then-value-lt128-clause-shortest c = c.in_one_byte.ensures.front ∙ sym (spells-one c.args.value (omega arith))

pub returns-then-value-lt16384-clause-shortest : goal.returns-then-value-lt16384-clause-shortest
returns-then-value-lt16384-clause-shortest c = c.in_two_bytes.ensures.front ∙ sym (spells-two c.args.value (omega arith) (omega arith))

pub returns-else-value-lt16384-clause-shortest : goal.returns-else-value-lt16384-clause-shortest
returns-else-value-lt16384-clause-shortest c = c.in_four_bytes.ensures.front ∙ sym (spells-four c.args.value (omega arith) (omega arith))

pub returns-then-value-lt128-clause-read_back : goal.returns-then-value-lt128-clause-read_back
returns-then-value-lt128-clause-read_back c = strip-whole_number c.args.value _ (omega arith) (returns-then-value-lt128-clause-shortest c)

pub returns-then-value-lt16384-clause-read_back : goal.returns-then-value-lt16384-clause-read_back
returns-then-value-lt16384-clause-read_back c = strip-whole_number c.args.value _ (omega arith) (returns-then-value-lt16384-clause-shortest c)

pub returns-else-value-lt16384-clause-read_back : goal.returns-else-value-lt16384-clause-read_back
returns-else-value-lt16384-clause-read_back c = strip-whole_number c.args.value _ (omega arith) (returns-else-value-lt16384-clause-shortest c)
