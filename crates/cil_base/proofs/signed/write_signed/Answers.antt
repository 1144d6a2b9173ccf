use Rattle.std.proofs.Common.{true, false, ◌∙◌}
use Rattle.cil_base.proofs.SignedLemmas.{strip-whole_signed, signed-spells_one, signed-spells_two, signed-spells_four, tested-7, tested-14, turned, within-29}
use Rattle.cil_base.proofs.signed.write_signed.Goals as goal

pub returns-then-contains-clause-shortest : goal.returns-then-contains-clause-shortest
returns-then-contains-clause-shortest c =
    let fits = c.ranges.value in
    let held = tested-7 c.args.value true fits c.if-contains.ensures.value in
    c.in_one_byte.ensures.front ∙ signed-spells_one c.rotated.result c.args.value held (turned 64 _ c.args.value fits c.rotated.ensures)

pub returns-then-contains-2-clause-shortest : goal.returns-then-contains-2-clause-shortest
returns-then-contains-2-clause-shortest c =
    let fits = c.ranges.value in
    let longer = tested-7 c.args.value false fits c.if-contains.ensures.value in
    let held = tested-14 c.args.value true fits c.if-contains-2.ensures.value in
    c.in_two_bytes.ensures.front ∙ signed-spells_two c.rotated-then-contains-2.result c.args.value longer held (turned 8192 _ c.args.value fits c.rotated-then-contains-2.ensures)

pub returns-else-contains-2-clause-shortest : goal.returns-else-contains-2-clause-shortest
returns-else-contains-2-clause-shortest c =
    let fits = c.ranges.value in
    let longer = tested-7 c.args.value false fits c.if-contains.ensures.value in
    let longest = tested-14 c.args.value false fits c.if-contains-2.ensures.value in
    let held = within-29 c.args.value c.requires.low c.requires.high in
    c.in_four_bytes.ensures.front ∙ signed-spells_four c.rotated-else-contains-2.result c.args.value longer longest held (turned 268435456 _ c.args.value fits c.rotated-else-contains-2.ensures)

pub returns-then-contains-clause-read_back : goal.returns-then-contains-clause-read_back
returns-then-contains-clause-read_back c = strip-whole_signed c.args.value _ (within-29 c.args.value c.requires.low c.requires.high) (returns-then-contains-clause-shortest c)

pub returns-then-contains-2-clause-read_back : goal.returns-then-contains-2-clause-read_back
returns-then-contains-2-clause-read_back c = strip-whole_signed c.args.value _ (within-29 c.args.value c.requires.low c.requires.high) (returns-then-contains-2-clause-shortest c)

pub returns-else-contains-2-clause-read_back : goal.returns-else-contains-2-clause-read_back
returns-else-contains-2-clause-read_back c = strip-whole_signed c.args.value _ (within-29 c.args.value c.requires.low c.requires.high) (returns-else-contains-2-clause-shortest c)
