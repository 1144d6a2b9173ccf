use Rattle.std.proofs.Common.{◌<◌, rules, arith}
use Rattle.sig_tree.proofs.Keeps.{array_keeps, inst_keeps}
use Rattle.sig_tree.proofs.bounds.+keeps.Goals as goal

pub type_keeps-returns-then-type_keeps : goal.type_keeps-returns-then-type_keeps
type_keeps-returns-then-type_keeps t c =
    let positive : 0 < c.args.depth = omega arith in
    rw (array_keeps c.args.ty.now c.in-Array.elem c.in-Array.rank c.in-Array.sizes c.in-Array.lows c.args.depth c.in-Array.is positive) (search rules)

pub type_keeps-returns-else-type_keeps : goal.type_keeps-returns-else-type_keeps
type_keeps-returns-else-type_keeps t c =
    let positive : 0 < c.args.depth = omega arith in
    rw (array_keeps c.args.ty.now c.in-Array.elem c.in-Array.rank c.in-Array.sizes c.in-Array.lows c.args.depth c.in-Array.is positive) (search rules)

pub type_keeps-returns-then-names_type : goal.type_keeps-returns-then-names_type
type_keeps-returns-then-names_type t c =
    let positive : 0 < c.args.depth = omega arith in
    rw (inst_keeps c.args.ty.now c.in-Inst.value c.in-Inst.of c.in-Inst.args c.args.depth c.in-Inst.is positive) (search rules)
