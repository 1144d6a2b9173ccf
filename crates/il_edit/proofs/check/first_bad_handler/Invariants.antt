use Rattle.std.proofs.Common.{◌≡◌, ◌+◌, drop, map}
use Rattle.il_code.specs.Spelling.{placed_handler}
use Rattle.il_code.specs.Sound.{is_sound_handler}
use Rattle.il_edit.specs.inner.Failing.{failing_from}
use Rattle.il_edit.specs.inner.Shifted.{shifted}
use Rattle.il_edit.proofs.check.first_bad_handler.Given as goal

abbrev pub invariant-loop-i : goal.invariant-loop-i
invariant-loop-i l =
    failing_from (is_sound_handler l.count) (l.base + l.i) (map (placed_handler (shifted l.shift)) (drop l.i l.handlers))
    ≡ failing_from (is_sound_handler l.count) l.base (map (placed_handler (shifted l.shift)) l.handlers)
