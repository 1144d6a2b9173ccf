use Rattle.std.proofs.Common.{Some, sym, ap}
use Rattle.il_code.specs.Code.{placed}
use Rattle.il_code.proofs.NumberingLemmas.{replaced-more, replaced-over}
use Rattle.il_edit.specs.inner.Shifted.{kept_number}
use Rattle.il_edit.proofs.MovedLemmas.{all-moved, always}
use Rattle.il_edit.proofs.moved.move_code.Goals as goal

pub loop-i-preserved : goal.loop-i-preserved
loop-i-preserved c =
    replaced-more (always (placed (kept_number c.args.shift))) c.args.code.now c.loop-i.code c.set-instr.new.self c.set.new.self c.loop-i.i _ c.set-instr.result _ c.move_instr.result c.loop-i-test.true c.loop-i.invariant c.set-instr.ensures.old (ap Some (sym c.move_instr.ensures)) c.set-instr.ensures.rest c.set.ensures.rest

pub returns : goal.returns
returns c = all-moved (placed (kept_number c.args.shift)) c.args.code.now c.loop-i.code (replaced-over (always (placed (kept_number c.args.shift))) c.args.code.now c.loop-i.code c.loop-i.i _ c.loop-i-test.false c.loop-i.invariant)
