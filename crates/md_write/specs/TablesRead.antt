-- What is read of a tables stream that was written: ECMA-335 II.24.2.6.
use Rattle.std.specs.Prelude.{ℕ, ◌≡◌, ◌≤◌, List, IsSome, if◌then◌else◌}
use Rattle.md_schema.specs.Cell.{cell_of}
use Rattle.md_schema.specs.Entry.{column_of}
use Rattle.md_schema.specs.Header.{sum_below}
use Rattle.md_schema.specs.Layout.{Head, OpensTables}
use Rattle.md_schema.specs.Runs.{table_row_count}
use Rattle.md_write.specs.TableRows.{AreTableRows, counts_of_rows, written_number, row_count, rows_at}
use Rattle.md_write.specs.TablesStream.{has_rows, tables_stream}

-- the header: how many tables have rows, the rows of each, and which heaps are large
abbrev pub head_of_rows : ℕ → List (List (List ℕ)) → Head
head_of_rows heap_sizes tables = record {
  present = sum_below (λ table. if has_rows (rows_at tables table) then 1 else 0) 64;
  counts = counts_of_rows heap_sizes tables;
}

-- the stream opens with these counts, and the rows that are read are these
pub record HoldsRows (heap_sizes : ℕ) (tables : List (List (List ℕ))) (stream : List ℕ) : Type 0 where
  pub opens : OpensTables stream (head_of_rows heap_sizes tables)
  pub counts : (table : ℕ) → table_row_count stream table ≡ row_count tables table
  pub cells : (table rid column : ℕ) → 1 ≤ rid → rid ≤ row_count tables table → IsSome (column_of table column)
      → cell_of stream table rid column ≡ written_number tables table rid column

-- what is written is read back
abbrev pub StreamHoldsRows : Type 0
StreamHoldsRows =
    (heap_sizes : ℕ) (tables : List (List (List ℕ))) → AreTableRows heap_sizes tables
    → HoldsRows heap_sizes tables (tables_stream heap_sizes tables)
