use Rattle.std.proofs.Common.{◌≡◌, ◌+◌, drop, map}
use Rattle.il_code.specs.Code.{placed}
use Rattle.il_code.specs.Sound.{is_sound_instr}
use Rattle.il_edit.specs.inner.Failing.{failing_from}
use Rattle.il_edit.specs.inner.Shifted.{shifted}
use Rattle.il_edit.proofs.check.first_bad.Given as goal

abbrev pub invariant-loop-i : goal.invariant-loop-i
invariant-loop-i l =
    failing_from (is_sound_instr l.count) (l.base + l.i) (map (placed (shifted l.shift)) (drop l.i l.code))
    ≡ failing_from (is_sound_instr l.count) l.base (map (placed (shifted l.shift)) l.code)
