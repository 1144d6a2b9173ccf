use Rattle.std.proofs.Common.{◌≡◌, take}
use Rattle.resolver.specs.Parameters.{asked_of}
use Rattle.resolver.proofs.parameters.asked_of.Given as goal

-- those asked so far
abbrev pub invariant-loop-param : goal.invariant-loop-param
invariant-loop-param l = l.all ≡ asked_of (take l.param-index l.params)
