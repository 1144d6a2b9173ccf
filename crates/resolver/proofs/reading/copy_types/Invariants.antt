use Rattle.std.proofs.Common.{◌≡◌, take}
use Rattle.resolver.proofs.reading.copy_types.Given as goal

-- the types so far
abbrev pub invariant-loop-ty : goal.invariant-loop-ty
invariant-loop-ty l = l.all ≡ take l.ty-index l.types
