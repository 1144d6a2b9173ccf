use Rattle.std.proofs.Common.{◌∙◌}
use Rattle.il_read.proofs.ItemLemmas.{utf16-more}
use Rattle.il_read.proofs.texts.utf16_units.Goals as goal

pub loop-i-preserved : goal.loop-i-preserved
loop-i-preserved c = c.in_ok-push.ensures.ok ∙ utf16-more c.args.bytes.now c.loop-i.text c.loop-i.i c.unit_at.result c.loop-i.invariant c.unit_at.ensures
