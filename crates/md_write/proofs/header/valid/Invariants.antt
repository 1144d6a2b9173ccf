use Rattle.std.proofs.Common.{◌≡◌, ◌^◌, cond}
use Rattle.md_schema.specs.Header.{sum_below}
use Rattle.md_write.specs.TableRows.{rows_at}
use Rattle.md_write.specs.TablesStream.{has_rows}
use Rattle.md_write.proofs.header.valid.Given as goal

-- the bits of the tables so far
abbrev pub invariant-loop-table : goal.invariant-loop-table
invariant-loop-table l = l.valid ≡ sum_below (λ k. cond (has_rows (rows_at l.tables k)) (2 ^ k) 0) l.table
