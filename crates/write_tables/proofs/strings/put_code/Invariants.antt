use Rattle.std.proofs.Common.{take}
use Rattle.write_tables.specs.UserStrings.{code_strings}
use Rattle.write_tables.proofs.GatherLemmas.{GathersStrings}
use Rattle.write_tables.proofs.strings.put_code.Given as goal

abbrev pub invariant-loop-instr : goal.invariant-loop-instr
invariant-loop-instr l = GathersStrings l.initial.heaps l.heaps (code_strings (take l.instr-index l.code)) l.tokens
