use Rattle.std.proofs.Common.{◌≡◌}
use Rattle.cil_gen.specs.GenEdits.{gen_edits}
use Rattle.cil_gen.proofs.edits.gen_edits.Given as goal

-- the types so far
abbrev pub invariant-loop-number : goal.invariant-loop-number
invariant-loop-number l = l.edits ≡ gen_edits l.number
