use Rattle.std.proofs.Common.{◌≡◌, ℕ, ◌<◌, length, get_or}
use Rattle.node_model.specs.Keys.{image_rows}
use Rattle.lazy_core.proofs.lazy.row_counts.Given as goal

-- the tables so far
abbrev pub invariant-loop-table : goal.invariant-loop-table
invariant-loop-table l = record {
  rows : (table : ℕ) → table < l.table → get_or l.rows table 0 ≡ image_rows l.image table;
  long : length l.rows ≡ 64;
}
