use Rattle.std.proofs.Common.{◌≡◌, ◌++◌, take}
use Rattle.md_write.specs.inner.Widths.{bytes_in_widths}
use Rattle.md_write.proofs.rows.push_row.Given as goal

-- the numbers so far are added
abbrev pub invariant-loop-place : goal.invariant-loop-place
invariant-loop-place l = l.out ≡ l.initial.out ++ bytes_in_widths (take l.place l.widths) (take l.place l.numbers)
