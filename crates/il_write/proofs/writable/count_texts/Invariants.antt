use Rattle.std.proofs.Common.{◌≡◌, ◌≤◌, take, length}
use Rattle.il_code.specs.Writable.{texts_of}
use Rattle.il_write.proofs.writable.count_texts.Given as goal

abbrev pub invariant-loop-instr : goal.invariant-loop-instr
invariant-loop-instr l = record { counted : l.count ≡ length (texts_of (take l.instr-index l.code)); few : l.count ≤ l.instr-index }
