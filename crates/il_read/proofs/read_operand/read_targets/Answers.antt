use Rattle.std.proofs.Common.{◌≡◌, ◌+◌, ◌*◌, ◌-◌, sym, ◌∙◌, arith}
use Rattle.il_code.specs.Code.{switch_target_at}
use Rattle.il_read.proofs.ItemLemmas.{items-more, items-end, items-over}
use Rattle.il_read.proofs.read_operand.read_targets.Goals as goal

pub returns-in_default : goal.returns-in_default
returns-in_default c =
    sym (items-end (switch_target_at c.args.code.now (c.args.place + 4 * c.args.count)) 4 (c.args.place + 4 * c.loop-i.i) (c.args.count - c.loop-i.i) c.loop-i.targets (omega arith) (sym c.in_default.ensures))
    ∙ c.loop-i.invariant

pub loop-i-preserved : goal.loop-i-preserved
loop-i-preserved c =
    let next : c.args.place + 4 * (c.loop-i.i + 1) ≡ c.args.place + 4 * c.loop-i.i + 4 = omega arith in
    rw (c.in_ok-push.ensures.ok, next)
    (sym (items-more (switch_target_at c.args.code.now (c.args.place + 4 * c.args.count)) 4 (c.args.place + 4 * c.loop-i.i) (c.args.count - c.loop-i.i) (c.args.count - (c.loop-i.i + 1)) c.in-Some.target c.loop-i.targets (omega arith) (sym c.in-Some.ensures))
    ∙ c.loop-i.invariant)

pub returns : goal.returns
returns c =
    sym (items-over (switch_target_at c.args.code.now (c.args.place + 4 * c.args.count)) 4 (c.args.place + 4 * c.loop-i.i) (c.args.count - c.loop-i.i) c.loop-i.targets (omega arith))
    ∙ c.loop-i.invariant
