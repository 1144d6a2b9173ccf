use Rattle.std.proofs.Common.{ℕ, ◌≡◌, ◌<◌, ◌≤◌, ◌+◌, ◌*◌, ◌^◌, length, get_or}
use Rattle.md_schema.specs.Header.{count_of, present_below, valid_of}
use Rattle.md_tables.proofs.header.read_counts.Given as goal

abbrev pub invariant-loop-table : goal.invariant-loop-table
invariant-loop-table l = record {
  valid : l.valid ≡ valid_of l.stream;
  present : l.present ≡ present_below l.stream l.table;
  within : 24 + 4 * l.present ≤ length l.stream;
  rows : (k : ℕ) → k < l.table → get_or l.rows k 0 ≡ count_of l.stream k;
  few : (k : ℕ) → k < l.table → count_of l.stream k < 2 ^ 24;
  small : l.present ≤ l.table;
  long : length l.rows ≡ 64;
}
