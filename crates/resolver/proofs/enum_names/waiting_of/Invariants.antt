use Rattle.std.proofs.Common.{◌≡◌, take}
use Rattle.resolver.specs.EnumNames.{nested_waiting}
use Rattle.resolver.proofs.enum_names.waiting_of.Given as goal

-- what waits so far
abbrev pub invariant-loop-name : goal.invariant-loop-name
invariant-loop-name l = l.waiting ≡ nested_waiting (take l.name-index l.names)
