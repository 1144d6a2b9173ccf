use Rattle.il_code.specs.Numbering.{target_in}
use Rattle.il_code.proofs.NumberingLemmas.{Replaced}
use Rattle.il_read.proofs.numbering.number_targets.Given as goal

abbrev pub invariant-loop-i : goal.invariant-loop-i
invariant-loop-i l = Replaced (target_in l.places.starts l.places.count) l.fn.targets l.targets l.i l.i-end
