use Rattle.std.proofs.Common.{◌≡◌, take}
use Rattle.resolver.proofs.reading.copy_widths.Given as goal

-- the widths so far
abbrev pub invariant-loop-width : goal.invariant-loop-width
invariant-loop-width l = l.all ≡ take l.width-index l.widths
