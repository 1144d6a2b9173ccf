use Rattle.std.proofs.Common.{◌≡◌, take}
use Rattle.il_code.proofs.instr.copy_code.Given as goal

abbrev pub invariant-loop-instr : goal.invariant-loop-instr
invariant-loop-instr l = l.all ≡ take l.instr-index l.instr-items
