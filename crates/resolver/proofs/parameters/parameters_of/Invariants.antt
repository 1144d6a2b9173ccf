use Rattle.std.proofs.Common.{◌≡◌, map, take}
use Rattle.resolver.specs.Parameters.{parameter_of}
use Rattle.resolver.proofs.parameters.parameters_of.Given as goal

-- the parameters so far
abbrev pub invariant-loop-ty : goal.invariant-loop-ty
invariant-loop-ty l = l.params ≡ map parameter_of (take l.ty-index l.types)
