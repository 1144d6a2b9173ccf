use Rattle.il_code.specs.Numbering.{numbered_instr}
use Rattle.il_code.proofs.NumberingLemmas.{Replaced}
use Rattle.il_read.proofs.numbering.number_code.Given as goal

abbrev pub invariant-loop-i : goal.invariant-loop-i
invariant-loop-i l = Replaced (numbered_instr l.places.starts l.places.count) l.fn.code l.code l.i l.i-end
