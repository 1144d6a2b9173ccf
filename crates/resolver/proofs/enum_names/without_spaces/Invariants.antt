use Rattle.std.proofs.Common.{◌≡◌, take}
use Rattle.std.specs.List.{filter}
use Rattle.resolver.specs.EnumNames.{is_no_space}
use Rattle.resolver.proofs.enum_names.without_spaces.Given as goal

-- the bytes kept so far
abbrev pub invariant-loop-byte : goal.invariant-loop-byte
invariant-loop-byte l = l.kept ≡ filter is_no_space (take l.byte-index l.text)
