use Rattle.std.proofs.Common.{get_or, refl, arith}
use Rattle.std.proofs.lemmas.Option.{slice_get-get_or}
use Rattle.il_code.specs.Spelling.{placed_handler}
use Rattle.il_code.proofs.NumberingLemmas.{replaced-over}
use Rattle.il_edit.specs.inner.Shifted.{kept_number}
use Rattle.il_edit.proofs.MovedLemmas.{all-moved, always, nobody, replaced-one}
use Rattle.il_edit.proofs.moved.move_handlers.Goals as goal

pub loop-i-preserved : goal.loop-i-preserved
loop-i-preserved c =
    let there = slice_get-get_or c.loop-i.handlers c.loop-i.i nobody (omega (arith, c.loop-i.invariant.len, c.loop-i-test.true)) in
    replaced-one (always (placed_handler (kept_number c.args.shift))) c.args.handlers.now c.loop-i.handlers c.move_one.new.handlers c.loop-i.i _ (get_or c.loop-i.handlers c.loop-i.i nobody) (placed_handler (kept_number c.args.shift) (get_or c.loop-i.handlers c.loop-i.i nobody)) c.loop-i-test.true c.loop-i.invariant there refl (c.move_one.ensures (get_or c.loop-i.handlers c.loop-i.i nobody) there)

pub returns : goal.returns
returns c = all-moved (placed_handler (kept_number c.args.shift)) c.args.handlers.now c.loop-i.handlers (replaced-over (always (placed_handler (kept_number c.args.shift))) c.args.handlers.now c.loop-i.handlers c.loop-i.i _ c.loop-i-test.false c.loop-i.invariant)
