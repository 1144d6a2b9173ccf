use Rattle.std.proofs.Common.{◌≡◌, take}
use Rattle.cil_base.specs.Escape.{escaped}
use Rattle.cil_base.proofs.escaped.escape.Given as goal

-- the bytes so far stand escaped
abbrev pub invariant-loop-byte : goal.invariant-loop-byte
invariant-loop-byte l = l.text ≡ escaped (take l.byte-index l.bytes)
