use Rattle.std.proofs.Common.{◌≡◌, ◌++◌}
use Rattle.md_write.specs.TableRows.{rows_at}
use Rattle.md_write.specs.TablesStream.{bytes_below, table_bytes}
use Rattle.md_write.proofs.rows.push_rows.Given as goal

-- the rows of the tables so far are added
abbrev pub invariant-loop-table : goal.invariant-loop-table
invariant-loop-table l =
    l.out ≡ l.initial.out ++ bytes_below (λ table. table_bytes l.counts table (rows_at l.tables table)) l.table
