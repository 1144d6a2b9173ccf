use Rattle.std.proofs.Common.{◌≡◌, take}
use Rattle.attr_blob.proofs.copy.copy_named.Given as goal

abbrev pub invariant-loop-arg : goal.invariant-loop-arg
invariant-loop-arg l = l.all ≡ take l.arg-index l.args
