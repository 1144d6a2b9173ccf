use Rattle.std.proofs.Common.{◌≡◌, ◌+◌, ◌*◌, ◌^◌, ◌≤◌, map}
use Rattle.std.specs.List.{range_with_len}
use Rattle.il_code.specs.Code.{at}
use Rattle.il_code.proofs.places.starts_of.Given as goal

abbrev pub invariant-loop-instr : goal.invariant-loop-instr
invariant-loop-instr l = (l.all ≡ map (at l.code) (range_with_len 0 (l.instr-index + 1))) × (l.place ≡ at l.code l.instr-index) × (l.place ≤ l.instr-index * 2 ^ 67)
