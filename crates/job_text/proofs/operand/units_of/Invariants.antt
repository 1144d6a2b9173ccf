use Rattle.std.proofs.Common.{◌≡◌}
use Rattle.std.specs.Char.Escape.{encode_utf16}
use Rattle.std.specs.Prelude.{flat_map}
use Rattle.job_text.proofs.operand.units_of.Given as goal

-- the units of the characters so far
abbrev pub invariant-loop-c : goal.invariant-loop-c
invariant-loop-c l = l.units ≡ flat_map encode_utf16 l.yielded
