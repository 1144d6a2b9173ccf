use Rattle.std.proofs.Common.{sym, ◌∙◌}
use Rattle.il_code.specs.Code.{placed}
use Rattle.il_code.specs.Sound.{is_sound_instr}
use Rattle.il_edit.specs.inner.Shifted.{shifted}
use Rattle.il_edit.proofs.FailingLemmas.{ahead-found, ahead-over, ahead-passed}
use Rattle.il_edit.proofs.check.first_bad.Goals as goal

pub returns-then-not-is_sound : goal.returns-then-not-is_sound
returns-then-not-is_sound c = ahead-found (is_sound_instr c.args.count) (placed (shifted c.args.shift)) c.args.base c.loop-i.i c.index-code-i.result c.args.code.now c.loop-i-test.true c.index-code-i.is c.loop-i.invariant (sym c.is_sound.ensures ∙ c.if-not-is_sound.true)

pub loop-i-preserved : goal.loop-i-preserved
loop-i-preserved c = ahead-passed (is_sound_instr c.args.count) (placed (shifted c.args.shift)) c.args.base c.loop-i.i c.index-code-i.result c.args.code.now c.loop-i-test.true c.index-code-i.is c.loop-i.invariant (sym c.is_sound.ensures ∙ c.if-not-is_sound.false)

pub returns : goal.returns
returns c = ahead-over (is_sound_instr c.args.count) (placed (shifted c.args.shift)) c.args.base c.loop-i.i c.args.code.now c.loop-i-test.false c.loop-i.invariant
