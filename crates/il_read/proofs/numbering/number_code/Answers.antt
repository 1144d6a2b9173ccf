use Rattle.std.proofs.Common.{sym}
use Rattle.il_code.specs.Numbering.{numbered_instr}
use Rattle.il_code.proofs.NumberingLemmas.{replaced-start, replaced-more, replaced-stop, replaced-over}
use Rattle.il_read.proofs.numbering.number_code.Goals as goal

pub loop-i-init : goal.loop-i-init
loop-i-init c = replaced-start (numbered_instr c.args.places.now.starts c.args.places.now.count) c.args.code _ (sym c.len-i-end.ensures)

pub returns-in_default : goal.returns-in_default
returns-in_default c =
    sym (replaced-stop (numbered_instr c.args.places.now.starts c.args.places.now.count) c.args.code c.loop-i.code c.loop-i.i _ c.set-instr.result c.loop-i-test.true c.loop-i.invariant c.set-instr.ensures.old (sym c.in_default.ensures))

pub loop-i-preserved : goal.loop-i-preserved
loop-i-preserved c =
    replaced-more (numbered_instr c.args.places.now.starts c.args.places.now.count) c.args.code c.loop-i.code c.set-instr.new.self c.set.new.self c.loop-i.i _ c.set-instr.result _ c.in-Some.numbered c.loop-i-test.true c.loop-i.invariant c.set-instr.ensures.old (sym c.in-Some.ensures) c.set-instr.ensures.rest c.set.ensures.rest

pub returns : goal.returns
returns c = sym (replaced-over (numbered_instr c.args.places.now.starts c.args.places.now.count) c.args.code c.loop-i.code c.loop-i.i _ c.loop-i-test.false c.loop-i.invariant)
