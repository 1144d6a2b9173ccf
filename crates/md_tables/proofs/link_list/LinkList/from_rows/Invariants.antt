use Rattle.std.proofs.Common.{◌≡◌, map, take}
use Rattle.md_tables.proofs.link_list.LinkList.from_rows.Given as goal

abbrev pub invariant-loop-row : goal.invariant-loop-row
invariant-loop-row l = record {
  numbers : l.numbers.items ≡ map (λ row. row.number) (take l.row-index l.row-items);
  rids : l.rids.items ≡ map (λ row. row.rid) (take l.row-index l.row-items);
}
