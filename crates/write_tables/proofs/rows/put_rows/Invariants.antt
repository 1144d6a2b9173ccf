use Rattle.std.proofs.Common.{◌≡◌, ℕ, List, length, map, take}
use Rattle.std.specs.List.{enumerate_from, flat_map}
use Rattle.write_tables.specs.inner.Gathered.{Gathers}
use Rattle.write_tables.specs.inner.PlacedColumns.{held_numbers, held_row}
use Rattle.write_tables.proofs.rows.put_rows.Given as goal

abbrev pub invariant-loop-row : goal.invariant-loop-row
invariant-loop-row l = record {
  gathered :
      Gathers (List (List ℕ)) l.initial.heaps l.heaps (flat_map (held_row l.plan l.columns) (take l.row-index l.rows))
      (λ later. map (held_numbers l.plan later l.columns) (take l.row-index (enumerate_from 0 l.rows))) l.all;
  count : length l.all ≡ l.row-index;
}
