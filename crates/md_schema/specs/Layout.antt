-- Where the rows of each table stand in the tables stream: ECMA-335 II.24.2.6.
use Rattle.std.specs.Prelude.{ℕ, ◌≡◌, ◌<◌, ◌≤◌, ◌+◌, ◌*◌, ◌^◌, List, map, length, slice_index}
use Rattle.std.specs.List.{range_with_len, sum_by}
use Rattle.std.specs.Option.{option_map_or}
use Rattle.md_schema.specs.Column.{ColumnOf}
use Rattle.md_schema.specs.Entry.{columns_of}
use Rattle.md_schema.specs.Header.{IsSupported, count_of, present_below, sum_below}
use Rattle.md_schema.specs.Width.{column_width_of, rows_of}
use Rattle.md_schema.specs.declared.column_width.Counts.{Counts}

-- what the header says: how many tables are in the stream, the rows of each, and which heaps are large
pub record Head : Type 0 where
  pub present : ℕ
  pub counts : Counts

unfoldable pub head_of : List ℕ → Head
head_of stream = record {
  present = present_below stream 64;
  counts = record { rows = map (count_of stream) (range_with_len 0 64); heap_sizes = slice_index stream 6 };
}

-- the bytes of these columns
unfoldable pub columns_width : Counts → List ColumnOf → ℕ
columns_width counts columns = sum_by (λ column. column_width_of column.kind counts) columns

-- the bytes of a row
unfoldable pub table_row_width : Counts → ℕ → ℕ
table_row_width counts table = option_map_or (columns_width counts) (columns_of table) 0

-- where the rows of a table begin: after the header, the counts, and all rows of tables of lesser number
unfoldable pub first_place : Head → ℕ → ℕ
first_place head table =
    24 + 4 * head.present
    + sum_below (λ lesser. rows_of head.counts lesser * table_row_width head.counts lesser) table

-- the stream holds its header, its counts and its rows, and says nothing that is not supported
pub record IsWhole (stream : List ℕ) : Type 0 where
  pub header : 24 ≤ length stream
  pub supported : (table : ℕ) → table < 64 → IsSupported stream table
  pub heaps : slice_index stream 6 < 8
  pub counted : 24 + 4 * present_below stream 64 ≤ length stream
  pub few : (table : ℕ) → table < 64 → count_of stream table < 2 ^ 24
  pub stands : first_place (head_of stream) 64 ≤ length stream

-- the tables were opened from this stream
pub record OpensTables (stream : List ℕ) (head : Head) : Type 0 where
  pub seen : head ≡ head_of stream
  pub whole : IsWhole stream
