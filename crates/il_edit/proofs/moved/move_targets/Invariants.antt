use Rattle.il_code.proofs.NumberingLemmas.{Replaced}
use Rattle.il_edit.specs.inner.Shifted.{kept_number}
use Rattle.il_edit.proofs.MovedLemmas.{always}
use Rattle.il_edit.proofs.moved.move_targets.Given as goal

abbrev pub invariant-loop-i : goal.invariant-loop-i
invariant-loop-i l = Replaced (always (kept_number l.shift)) l.fn.targets l.targets l.i l.i-end
