use Rattle.std.proofs.Common.{◌≡◌, ◌++◌}
use Rattle.cil_gen.specs.GenEdits.{edits_of, method_steps}
use Rattle.cil_gen.proofs.edits.push_methods.Given as goal

-- the methods so far
abbrev pub invariant-loop-place : goal.invariant-loop-place
invariant-loop-place l = l.edits ≡ l.initial.edits ++ edits_of (method_steps l.number l.place)
