use Rattle.std.proofs.Common.{◌≡◌, ◌++◌}
use Rattle.md_write.specs.TableRows.{rows_at}
use Rattle.md_write.specs.TablesStream.{bytes_below, count_bytes}
use Rattle.md_write.proofs.counts.push_counts.Given as goal

-- the counts of the tables so far are added
abbrev pub invariant-loop-table : goal.invariant-loop-table
invariant-loop-table l = l.out ≡ l.initial.out ++ bytes_below (λ table. count_bytes (rows_at l.tables table)) l.table
