use Rattle.std.proofs.Common.{◌≡◌, drop}
use Rattle.resolver.specs.Parameters.{value_token}
use Rattle.resolver.proofs.parameters.value_token.Given as goal

-- the first behind the place is the first of all
abbrev pub invariant-loop-place : goal.invariant-loop-place
invariant-loop-place l = value_token (drop l.place l.asked) (drop l.place l.names) l.wanted ≡ value_token l.asked l.names l.wanted
