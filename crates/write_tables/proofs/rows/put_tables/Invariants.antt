use Rattle.std.proofs.Common.{ℕ, List, map}
use Rattle.std.specs.List.{flat_map, range_with_len}
use Rattle.write_tables.specs.Contents.{table_contents}
use Rattle.write_tables.specs.WrittenRows.{table_numbers}
use Rattle.write_tables.specs.inner.Gathered.{Gathers}
use Rattle.write_tables.proofs.rows.put_tables.Given as goal

abbrev pub invariant-loop-table : goal.invariant-loop-table
invariant-loop-table l =
    Gathers (List (List (List ℕ))) l.initial.heaps l.heaps (flat_map (table_contents l.plan) (range_with_len 0 l.table))
    (λ later. map (table_numbers l.plan l.placed later) (range_with_len 0 l.table)) l.all
