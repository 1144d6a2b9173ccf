use Rattle.std.proofs.Common.{◌≡◌, ◌-◌, ◌≤◌, map}
use Rattle.std.specs.List.{range_with_len}
use Rattle.md_tables.proofs.IndexLemmas.{link_row}
use Rattle.md_tables.proofs.link_index.link_list.Given as goal

abbrev pub invariant-loop-rid : goal.invariant-loop-rid
invariant-loop-rid l = record {
  rows : l.rows.items ≡ map (link_row l.stream l.fn.link) (range_with_len 1 (l.rid - 1));
  first : 1 ≤ l.rid;
}
