use Rattle.std.proofs.Common.{◌≡◌, ◌++◌, take}
use Rattle.std.specs.List.{flat_map}
use Rattle.cil_base.specs.Escape.{hex_pair}
use Rattle.cecil_top.proofs.end_text.add_hex.Given as goal

abbrev pub invariant-loop-byte : goal.invariant-loop-byte
invariant-loop-byte l = l.text ≡ l.initial.text ++ flat_map hex_pair (take l.byte-index l.bytes)
