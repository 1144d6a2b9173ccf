use Rattle.std.proofs.Common.{ℕ, ◌≡◌, ◌<◌, ◌≤◌, ◌+◌, ◌*◌, length, get_or}
use Rattle.md_schema.specs.Layout.{first_place, table_row_width}
use Rattle.md_tables.proofs.layout.lay_out.Given as goal

abbrev pub invariant-loop-table : goal.invariant-loop-table
invariant-loop-table l = record {
  starts : (k : ℕ) → k < l.table → get_or l.starts k 0 ≡ first_place (record { present = l.present; counts = l.counts }) k;
  widths : (k : ℕ) → k < l.table → get_or l.widths k 0 ≡ table_row_width l.counts k;
  end : l.end ≡ first_place (record { present = l.present; counts = l.counts }) l.table;
  small : l.end ≤ 280 + l.table * 4294967296;
  starts_long : length l.starts ≡ 64;
  widths_long : length l.widths ≡ 64;
}
