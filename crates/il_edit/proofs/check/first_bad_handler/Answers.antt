use Rattle.std.proofs.Common.{sym, ◌∙◌}
use Rattle.il_code.specs.Spelling.{placed_handler}
use Rattle.il_code.specs.Sound.{is_sound_handler}
use Rattle.il_edit.specs.inner.Shifted.{shifted}
use Rattle.il_edit.proofs.FailingLemmas.{ahead-found, ahead-over, ahead-passed}
use Rattle.il_edit.proofs.check.first_bad_handler.Goals as goal

pub returns-then-not-is_handler_sound : goal.returns-then-not-is_handler_sound
returns-then-not-is_handler_sound c = ahead-found (is_sound_handler c.args.count) (placed_handler (shifted c.args.shift)) c.args.base c.loop-i.i c.index-handlers-i.result c.args.handlers.now c.loop-i-test.true c.index-handlers-i.is c.loop-i.invariant (sym c.is_handler_sound.ensures ∙ c.if-not-is_handler_sound.true)

pub loop-i-preserved : goal.loop-i-preserved
loop-i-preserved c = ahead-passed (is_sound_handler c.args.count) (placed_handler (shifted c.args.shift)) c.args.base c.loop-i.i c.index-handlers-i.result c.args.handlers.now c.loop-i-test.true c.index-handlers-i.is c.loop-i.invariant (sym c.is_handler_sound.ensures ∙ c.if-not-is_handler_sound.false)

pub returns : goal.returns
returns c = ahead-over (is_sound_handler c.args.count) (placed_handler (shifted c.args.shift)) c.args.base c.loop-i.i c.args.handlers.now c.loop-i-test.false c.loop-i.invariant
