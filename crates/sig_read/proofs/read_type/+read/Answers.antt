use Rattle.std.proofs.Common.{◌≡◌, ◌<◌, ◌-◌, suc, sym, ◌∙◌, arith}
use Rattle.sig_tree.specs.Parsing.{type_sig_at}
use Rattle.sig_read.proofs.Fuel.{type_at_step, params_marked}
use Rattle.sig_read.proofs.read_type.+read.Goals as goal

pub read_type-returns-in-Some : goal.read_type-returns-in-Some
read_type-returns-in-Some t c =
    let positive : 0 < c.args.depth = omega arith in
    rw (type_at_step c.args.depth c.in-Some.head c.args.bytes.now c.in-Some.rest.now (c.in-Some.ensures) positive) c.read_level.ensures

pub read_params-returns-in-Some : goal.read_params-returns-in-Some
read_params-returns-in-Some t c =
    let left : c.args.count - c.loop-number.number ≡ suc (c.args.count - c.loop-number.number - 1) = omega arith in
    rw (sym c.loop-number.invariant ∙ params_marked c.loop-number.params (type_sig_at c.args.depth) c.loop-number.number (c.args.count - c.loop-number.number) (c.args.count - c.loop-number.number - 1) c.loop-number.rest.now c.in-Some.after.now c.in-Some.ensures.0 c.in-Some.ensures.1 left)
    c.read_marked.ensures
