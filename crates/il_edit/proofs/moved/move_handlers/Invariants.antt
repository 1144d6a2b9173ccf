use Rattle.il_code.proofs.NumberingLemmas.{Replaced}
use Rattle.il_code.specs.Spelling.{placed_handler}
use Rattle.il_edit.specs.inner.Shifted.{kept_number}
use Rattle.il_edit.proofs.MovedLemmas.{always}
use Rattle.il_edit.proofs.moved.move_handlers.Given as goal

abbrev pub invariant-loop-i : goal.invariant-loop-i
invariant-loop-i l = Replaced (always (placed_handler (kept_number l.shift))) l.initial.handlers l.handlers l.i l.i-end
