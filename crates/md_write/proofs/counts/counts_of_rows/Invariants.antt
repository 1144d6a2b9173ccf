use Rattle.std.proofs.Common.{◌≡◌, ◌<◌, ℕ, length, get_or}
use Rattle.md_write.specs.TableRows.{row_count}
use Rattle.md_write.proofs.counts.counts_of_rows.Given as goal

-- the counts of the tables so far
abbrev pub invariant-loop-table : goal.invariant-loop-table
invariant-loop-table l = record {
  long : length l.rows ≡ 64;
  each : (k : ℕ) → k < l.table → get_or l.rows k 0 ≡ row_count l.tables k;
}
