-- The place and the number of a cell: ECMA-335 II.22 and II.24.2.6.
use Rattle.std.specs.Prelude.{ℕ, ◌≤◌, ◌+◌, ◌-◌, ◌*◌, List, take}
use Rattle.std.specs.Option.{option_map_or}
use Rattle.cil_base.specs.Place.{number_at}
use Rattle.md_schema.specs.Entry.{column_of, columns_of}
use Rattle.md_schema.specs.Layout.{Head, columns_width, first_place, head_of, table_row_width}
use Rattle.md_schema.specs.Width.{column_width_of, rows_of}
use Rattle.md_schema.specs.declared.column_width.Counts.{Counts}
use Rattle.md_schema.specs.declared.column.ColumnKind.{ColumnKind}
use Rattle.md_schema.specs.declared.column.ColumnKind.TheVariants.{U8Pad}

-- the bytes of a column that are read: of a byte and its pad the byte alone
abbrev pub read_width : ColumnKind → Counts → ℕ
read_width U8Pad counts = 1
read_width kind counts = column_width_of kind counts

-- the bytes of the columns before this one
unfoldable pub offset_of : Counts → ℕ → ℕ → ℕ
offset_of counts table column =
    option_map_or (λ columns. columns_width counts (take column columns)) (columns_of table) 0

-- after all rows of lesser tables, the rows before this one, and the columns before this one
unfoldable pub place_of : Head → ℕ → ℕ → ℕ → ℕ
place_of head table rid column =
    first_place head table + (rid - 1) * table_row_width head.counts table + offset_of head.counts table column

-- the number that stands there, the lowest byte first
unfoldable pub cell_of : List ℕ → ℕ → ℕ → ℕ → ℕ
cell_of stream table rid column =
    option_map_or
    (λ found.
    number_at stream (place_of (head_of stream) table rid column) (read_width found.kind (head_of stream).counts))
    (column_of table column) 0

-- a row of the table
pub record IsRowOf (head : Head) (table rid : ℕ) : Type 0 where
  pub first : 1 ≤ rid
  pub last : rid ≤ rows_of head.counts table
