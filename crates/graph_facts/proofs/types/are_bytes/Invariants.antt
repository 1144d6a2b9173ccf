use Rattle.std.proofs.Common.{take}
use Rattle.graph_facts.specs.OfTypes.{AreBytes}
use Rattle.graph_facts.proofs.types.are_bytes.Given as goal

abbrev pub invariant-loop-byte : goal.invariant-loop-byte
invariant-loop-byte l = AreBytes (take l.byte-index l.bytes)
