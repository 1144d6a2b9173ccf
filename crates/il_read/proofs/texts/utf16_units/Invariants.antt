use Rattle.std.proofs.Common.{◌≡◌, ◌*◌, map}
use Rattle.std.specs.List.{range_with_len}
use Rattle.cil_base.specs.Place.{number_at}
use Rattle.il_read.proofs.texts.utf16_units.Given as goal

abbrev pub invariant-loop-i : goal.invariant-loop-i
invariant-loop-i l = l.text ≡ map (λ i. number_at l.bytes (2 * i) 2) (range_with_len 0 l.i)
