use Rattle.std.proofs.Common.{◌<◌, get_or, arith}
use Rattle.cil_base.proofs.FrontLemmas.{front-one, front-two, front-four, front-empty, front-short_two, front-short_four, front-no_form}
use Rattle.cil_base.proofs.compressed.read_compressed.Goals as goal

pub returns-in-len1-up-clause-value : goal.returns-in-len1-up-clause-value
returns-in-len1-up-clause-value c = front-one c.args.bytes.now c.from.result (omega arith) (omega arith) (omega arith)

pub returns-in-len2-up-clause-value : goal.returns-in-len2-up-clause-value
returns-in-len2-up-clause-value c =
    let b : get_or c.args.bytes.now 1 0 < 256 = omega (arith, c.type_inv.bytes 1) in
    front-two c.args.bytes.now _ (omega arith) (omega arith) (omega arith) b (omega arith)

pub returns-in-len4-up-clause-value : goal.returns-in-len4-up-clause-value
returns-in-len4-up-clause-value c =
    let b : get_or c.args.bytes.now 1 0 < 256 = omega (arith, c.type_inv.bytes 1) in
    let d : get_or c.args.bytes.now 2 0 < 256 = omega (arith, c.type_inv.bytes 2) in
    let e : get_or c.args.bytes.now 3 0 < 256 = omega (arith, c.type_inv.bytes 3) in
    front-four c.args.bytes.now _ (omega arith) (omega arith) (omega arith) b d e (omega arith)

pub returns-in_default-clause-none : goal.returns-in_default-clause-none
returns-in_default-clause-none c = front-empty c.args.bytes.now (omega arith)

pub returns-in_default-2-clause-none : goal.returns-in_default-2-clause-none
returns-in_default-2-clause-none c = front-short_two c.args.bytes.now (omega arith) (omega arith)

pub returns-in_default-3-clause-none : goal.returns-in_default-3-clause-none
returns-in_default-3-clause-none c = front-short_four c.args.bytes.now (omega arith) (omega arith)

pub returns-in_default-4-clause-none : goal.returns-in_default-4-clause-none
returns-in_default-4-clause-none c = front-no_form c.args.bytes.now (omega arith)
