use Rattle.std.proofs.Common.{ℕ, List, map, take}
use Rattle.std.specs.List.{flat_map}
use Rattle.write_tables.specs.inner.Gathered.{Gathers}
use Rattle.write_tables.specs.inner.PlacedColumns.{held_contents, held_number}
use Rattle.write_tables.proofs.rows.put_row.Given as goal

abbrev pub invariant-loop-column : goal.invariant-loop-column
invariant-loop-column l =
    Gathers (List ℕ) l.initial.heaps l.heaps (flat_map (held_contents l.plan l.row l.cells) (take l.column-index l.columns))
    (λ later. map (held_number l.plan later l.place l.row l.cells) (take l.column-index l.columns)) l.numbers
