use Rattle.std.proofs.Common.{◌≡◌, take}
use Rattle.resolver.proofs.reading.copy_names.Given as goal

-- the names so far
abbrev pub invariant-loop-name : goal.invariant-loop-name
invariant-loop-name l = l.all ≡ take l.name-index l.names
