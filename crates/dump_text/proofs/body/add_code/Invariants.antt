use Rattle.std.proofs.Common.{◌≡◌, ◌++◌, take}
use Rattle.std.specs.List.{flat_map, enumerate_from}
use Rattle.dump_text.specs.Bodies.{instr_text}
use Rattle.dump_text.proofs.body.add_code.Given as goal

-- the instructions so far
abbrev pub invariant-loop-number : goal.invariant-loop-number
invariant-loop-number l = l.text ≡ l.initial.text ++ flat_map instr_text (take l.number (enumerate_from 0 l.code))
