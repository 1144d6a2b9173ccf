use Rattle.std.proofs.Common.{◌≡◌, ◌++◌, take}
use Rattle.attr_blob.specs.Spelled.{spelled_args}
use Rattle.attr_blob.proofs.spell.+spell.Given as goal

abbrev pub invariant-add_args-loop-arg : goal.invariant-add_args-loop-arg
invariant-add_args-loop-arg l = l.out ≡ l.initial.out ++ spelled_args (take l.arg-index l.args)
