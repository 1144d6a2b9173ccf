use Rattle.std.proofs.Common.{◌≡◌, ◌++◌, take}
use Rattle.asm_names.specs.Assembly.{hex_text}
use Rattle.dump_text.proofs.pieces.add_hex.Given as goal

abbrev pub invariant-loop-byte : goal.invariant-loop-byte
invariant-loop-byte l = l.text ≡ l.initial.text ++ hex_text (take l.byte-index l.bytes)
