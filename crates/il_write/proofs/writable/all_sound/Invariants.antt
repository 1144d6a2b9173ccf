use Rattle.std.proofs.Common.{take}
use Rattle.il_code.specs.Writable.{IsSound}
use Rattle.std.specs.List.{AllByRecursion}
use Rattle.il_write.proofs.writable.all_sound.Given as goal

abbrev pub invariant-loop-instr : goal.invariant-loop-instr
invariant-loop-instr l = AllByRecursion (IsSound l.count) (take l.instr-index l.code)
