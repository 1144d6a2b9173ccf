use Rattle.il_code.proofs.NumberingLemmas.{Replaced}
use Rattle.il_code.specs.Code.{placed}
use Rattle.il_edit.specs.inner.Shifted.{kept_number}
use Rattle.il_edit.proofs.MovedLemmas.{always}
use Rattle.il_edit.proofs.moved.move_code.Given as goal

abbrev pub invariant-loop-i : goal.invariant-loop-i
invariant-loop-i l = Replaced (always (placed (kept_number l.shift))) l.initial.code l.code l.i l.i-end
