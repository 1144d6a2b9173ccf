use Rattle.std.proofs.Common.{◌≡◌, ◌++◌, take}
use Rattle.cil_base.specs.Escape.{escaped}
use Rattle.dump_text.proofs.pieces.add_escaped.Given as goal

abbrev pub invariant-loop-byte : goal.invariant-loop-byte
invariant-loop-byte l = l.text ≡ l.initial.text ++ escaped (take l.byte-index l.bytes)
