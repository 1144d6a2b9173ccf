-- The tables stream of rows of numbers: ECMA-335 II.24.2.6.
use Rattle.std.specs.Prelude.{ℕ, ◌-◌, ◌%◌, ◌^◌, ◌++◌, Bool, true, false, List, [], ◌∷◌, length, replicate}
use Rattle.std.specs.Prelude.{if◌then◌else◌}
use Rattle.std.specs.List.{flat_map, range_with_len}
use Rattle.std.specs.Option.{unwrap_or}
use Rattle.byteorder.specs.Endian.{little_bytes}
use Rattle.md_schema.specs.Column.{ColumnOf}
use Rattle.md_schema.specs.Entry.{columns_of}
use Rattle.md_schema.specs.Header.{sum_below}
use Rattle.md_schema.specs.declared.column_width.Counts.{Counts}
use Rattle.md_tables.specs.Written.{row_bytes}
use Rattle.md_write.specs.TableRows.{counts_of_rows, rows_at}

-- what f gives for the numbers below n, one after the other
unfoldable pub bytes_below : (ℕ → List ℕ) → ℕ → List ℕ
bytes_below f n = flat_map f (range_with_len 0 n)

abbrev pub has_rows : List (List ℕ) → Bool
has_rows [] = false
has_rows (row ∷ rows) = true

-- Valid: a bit for each table that has rows
abbrev pub valid_of_rows : List (List (List ℕ)) → ℕ
valid_of_rows tables = sum_below (λ table. if has_rows (rows_at tables table) then 2 ^ table else 0) 64

-- the first 24 bytes: a number that is 0, the version 2.0, HeapSizes, a number that is 1, Valid, and Sorted, which is
-- the same for all rows
unfoldable pub tables_header : ℕ → ℕ → List ℕ
tables_header heap_sizes valid =
    0 ∷ 0 ∷ 0 ∷ 0 ∷ 2 ∷ 0 ∷ heap_sizes ∷ 1 ∷ [] ++ (little_bytes 8 valid ++ little_bytes 8 0x16003301FA00)

-- the number of a table's rows, where it has any
abbrev pub count_bytes : List (List ℕ) → List ℕ
count_bytes rows = if has_rows rows then little_bytes 4 (length rows) else []

-- the columns of a table; a number that is none of the 38 has none
abbrev pub columns_at : ℕ → List ColumnOf
columns_at table = unwrap_or (columns_of table) []

-- the rows of a table, each column in its width
abbrev pub table_bytes : Counts → ℕ → List (List ℕ) → List ℕ
table_bytes counts table rows = flat_map (row_bytes counts (columns_at table)) rows

-- the counts of all tables, by rising numbers of the tables
abbrev pub all_count_bytes : List (List (List ℕ)) → List ℕ
all_count_bytes tables = bytes_below (λ table. count_bytes (rows_at tables table)) 64

-- and their rows
abbrev pub all_row_bytes : Counts → List (List (List ℕ)) → List ℕ
all_row_bytes counts tables = bytes_below (λ table. table_bytes counts table (rows_at tables table)) 64

unfoldable pub counts_and_rows : ℕ → List (List (List ℕ)) → List ℕ
counts_and_rows heap_sizes tables =
    all_count_bytes tables ++ all_row_bytes (counts_of_rows heap_sizes tables) tables

-- zeros behind so many bytes, up to a multiple of 4
abbrev pub zeros_to_four : ℕ → List ℕ
zeros_to_four size = replicate ((4 - size % 4) % 4) 0

abbrev pub filled_to_four : List ℕ → List ℕ
filled_to_four bytes = bytes ++ zeros_to_four (length bytes)

unfoldable pub tables_stream : ℕ → List (List (List ℕ)) → List ℕ
tables_stream heap_sizes tables =
    filled_to_four (tables_header heap_sizes (valid_of_rows tables) ++ counts_and_rows heap_sizes tables)
