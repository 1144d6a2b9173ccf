use Rattle.std.proofs.Common.{◌≡◌, take}
use Rattle.node_model.proofs.edit_copy.copy_edits.Given as goal

-- the edits so far
abbrev pub invariant-loop-edit : goal.invariant-loop-edit
invariant-loop-edit l = l.all ≡ take l.edit-index l.edits
