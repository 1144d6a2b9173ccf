use Rattle.std.proofs.Common.{◌≡◌, map, take}
use Rattle.std.specs.List.{enumerate_from}
use Rattle.md_schema.specs.Column.{seen_columns}
use Rattle.write_tables.specs.inner.PlacedColumns.{placed_column}
use Rattle.write_tables.proofs.table_column.placed_among.Given as goal

abbrev pub invariant-loop-number : goal.invariant-loop-number
invariant-loop-number l =
    l.all ≡ map (placed_column l.plan l.placed l.table (seen_columns l.columns)) (take l.number (enumerate_from 0 (seen_columns l.columns)))
