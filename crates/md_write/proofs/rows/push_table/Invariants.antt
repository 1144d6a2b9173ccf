use Rattle.std.proofs.Common.{◌≡◌, ◌++◌, take}
use Rattle.md_write.specs.TablesStream.{table_bytes}
use Rattle.md_write.proofs.rows.push_table.Given as goal

-- the rows so far are added
abbrev pub invariant-loop-row : goal.invariant-loop-row
invariant-loop-row l = l.out ≡ l.initial.out ++ table_bytes l.counts l.table (take l.row-index l.rows)
