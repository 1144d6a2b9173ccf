use Rattle.std.proofs.Common.{sym}
use Rattle.il_code.specs.Numbering.{target_in}
use Rattle.il_code.proofs.NumberingLemmas.{replaced-start, replaced-more, replaced-stop, replaced-over}
use Rattle.il_read.proofs.numbering.number_targets.Goals as goal

pub loop-i-init : goal.loop-i-init
loop-i-init c = replaced-start (target_in c.args.places.now.starts c.args.places.now.count) c.args.targets _ (sym c.len-i-end.ensures)

pub returns-in_default : goal.returns-in_default
returns-in_default c =
    sym (replaced-stop (target_in c.args.places.now.starts c.args.places.now.count) c.args.targets c.loop-i.targets c.loop-i.i _ c.set-place.result c.loop-i-test.true c.loop-i.invariant c.set-place.ensures.old (sym c.in_default.ensures))

pub loop-i-preserved : goal.loop-i-preserved
loop-i-preserved c =
    replaced-more (target_in c.args.places.now.starts c.args.places.now.count) c.args.targets c.loop-i.targets c.set-place.new.self c.set.new.self c.loop-i.i _ c.set-place.result 0 c.in-Some.number c.loop-i-test.true c.loop-i.invariant c.set-place.ensures.old (sym c.in-Some.ensures) c.set-place.ensures.rest c.set.ensures.rest

pub returns : goal.returns
returns c = sym (replaced-over (target_in c.args.places.now.starts c.args.places.now.count) c.args.targets c.loop-i.targets c.loop-i.i _ c.loop-i-test.false c.loop-i.invariant)
