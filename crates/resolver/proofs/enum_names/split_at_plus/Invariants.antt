use Rattle.std.proofs.Common.{◌≡◌, ◌++◌, drop}
use Rattle.std.specs.List.{slice_split}
use Rattle.resolver.specs.EnumNames.{is_plus_sign}
use Rattle.resolver.specs.inner.Splits.{glued}
use Rattle.resolver.proofs.enum_names.split_at_plus.Given as goal

-- the parts so far, with those behind the place
abbrev pub invariant-loop-byte : goal.invariant-loop-byte
invariant-loop-byte l = l.parts ++ glued l.part (slice_split is_plus_sign (drop l.byte-index l.text)) ≡ slice_split is_plus_sign l.text
