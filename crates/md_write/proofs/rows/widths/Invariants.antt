use Rattle.std.proofs.Common.{◌≡◌, take}
use Rattle.md_write.specs.inner.Widths.{widths_of}
use Rattle.md_write.proofs.rows.widths.Given as goal

-- the widths of the columns so far
abbrev pub invariant-loop-column : goal.invariant-loop-column
invariant-loop-column l = l.widths ≡ widths_of l.counts (take l.column-index l.columns)
