use Rattle.std.proofs.Common.{◌≡◌, take}
use Rattle.attr_blob.proofs.+copy.Given as goal

abbrev pub invariant-copy::copy_args-loop-arg : goal.invariant-copy::copy_args-loop-arg
invariant-copy::copy_args-loop-arg l = l.all ≡ take l.arg-index l.args
