-- Rows of numbers, by the numbers of their tables: a list for each table, and in it a list for each row, which has a
-- number for each column. ECMA-335 II.22.
use Rattle.std.specs.Prelude.{ℕ, ◌≡◌, ◌<◌, ◌-◌, ◌^◌, List, [], map, length, Some, slice_get, slice_index_or}
use Rattle.std.specs.List.{range_with_len}
use Rattle.md_schema.specs.Column.{ColumnOf}
use Rattle.md_schema.specs.Entry.{columns_of}
use Rattle.md_schema.specs.declared.column_width.Counts.{Counts}
use Rattle.md_tables.specs.Written.{Fits}

-- the rows of a table
abbrev pub rows_at : List (List (List ℕ)) → ℕ → List (List ℕ)
rows_at tables table = slice_index_or tables table []

abbrev pub row_count : List (List (List ℕ)) → ℕ → ℕ
row_count tables table = length (rows_at tables table)

-- the number in a column of a row, which are counted from 0 and from 1
abbrev pub written_number : List (List (List ℕ)) → ℕ → ℕ → ℕ → ℕ
written_number tables table rid column = slice_index_or (slice_index_or (rows_at tables table) (rid - 1) []) column 0

-- what decides the widths of columns: the rows of each of 64 tables, and the bits of the large heaps
unfoldable pub row_counts : List (List (List ℕ)) → List ℕ
row_counts tables = map (row_count tables) (range_with_len 0 64)

abbrev pub counts_of_rows : ℕ → List (List (List ℕ)) → Counts
counts_of_rows heap_sizes tables = record { rows = row_counts tables; heap_sizes = heap_sizes }

-- the table is one of the 38, and the row has a number for each of its columns, which fits the column's bytes
abbrev pub IsRowFor : Counts → ℕ → List ℕ → Type 0
IsRowFor counts table numbers =
    (columns : List ColumnOf) × (columns_of table ≡ Some columns) × Fits counts columns numbers

-- so are all rows of the table
abbrev pub AreRowsFor : Counts → ℕ → List (List ℕ) → Type 0
AreRowsFor counts table rows =
    (place : ℕ) (numbers : List ℕ) → slice_get rows place ≡ Some numbers → IsRowFor counts table numbers

-- rows that can be written
pub record AreTableRows (heap_sizes : ℕ) (tables : List (List (List ℕ))) : Type 0 where
  pub all : length tables ≡ 64
  pub heaps : heap_sizes < 8
  pub few : (table : ℕ) → row_count tables table < 2 ^ 24
  pub fit : (table : ℕ) → AreRowsFor (counts_of_rows heap_sizes tables) table (rows_at tables table)
