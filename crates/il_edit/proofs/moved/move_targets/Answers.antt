use Rattle.std.proofs.Common.{Some, sym, ap}
use Rattle.il_code.proofs.NumberingLemmas.{replaced-more, replaced-over}
use Rattle.il_edit.specs.inner.Shifted.{kept_number}
use Rattle.il_edit.proofs.MovedLemmas.{all-moved, always}
use Rattle.il_edit.proofs.moved.move_targets.Goals as goal

pub loop-i-preserved : goal.loop-i-preserved
loop-i-preserved c =
    replaced-more (always (kept_number c.args.shift)) c.args.targets c.loop-i.targets c.set-target.new.self c.set.new.self c.loop-i.i _ c.set-target.result 0 c.narrow.result c.loop-i-test.true c.loop-i.invariant c.set-target.ensures.old (ap Some (sym c.narrow.ensures)) c.set-target.ensures.rest c.set.ensures.rest

pub returns : goal.returns
returns c = all-moved (kept_number c.args.shift) c.args.targets c.loop-i.targets (replaced-over (always (kept_number c.args.shift)) c.args.targets c.loop-i.targets c.loop-i.i _ c.loop-i-test.false c.loop-i.invariant)
