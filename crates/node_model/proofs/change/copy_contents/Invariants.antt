use Rattle.std.proofs.Common.{◌≡◌, take}
use Rattle.node_model.proofs.change.copy_contents.Given as goal

-- the contents so far
abbrev pub invariant-loop-content : goal.invariant-loop-content
invariant-loop-content l = l.all ≡ take l.content-index l.contents
