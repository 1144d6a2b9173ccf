-- A row as bytes, and the law that its cells are read back: ECMA-335 II.22 and II.24.2.6.
use Rattle.std.specs.Prelude.{ℕ, ◌≡◌, ◌<◌, ◌+◌, ◌^◌, List, [], ◌∷◌, ◌++◌, length, take, Some, slice_get}
use Rattle.byteorder.specs.Endian.{little_bytes}
use Rattle.md_schema.specs.Column.{ColumnOf}
use Rattle.md_schema.specs.Width.{column_width_of}
use Rattle.md_schema.specs.declared.column_width.Counts.{Counts}
use Rattle.md_schema.specs.Cell.{read_width}
use Rattle.cil_base.specs.Place.{number_at}
use Rattle.md_schema.specs.Layout.{columns_width}

-- the numbers of a row, column by column, the lowest byte first; a byte that has a pad is followed by a zero
abbrev pub row_bytes : Counts → List ColumnOf → List ℕ → List ℕ
row_bytes counts [] numbers = []
row_bytes counts (column ∷ columns) [] = []
row_bytes counts (column ∷ columns) (number ∷ numbers) =
    little_bytes (column_width_of column.kind counts) number ++ row_bytes counts columns numbers

-- there is a number for each column, and it fits the bytes that are read of it
abbrev pub Fits : Counts → List ColumnOf → List ℕ → Type 0
Fits counts [] numbers = numbers ≡ []
Fits counts (column ∷ columns) [] = ⊥
Fits counts (column ∷ columns) (number ∷ numbers) =
    (number < 256 ^ read_width column.kind counts) × Fits counts columns numbers

-- wherever such a row stands, each column is read back from behind the columns before it
abbrev pub RowsReadBack : Type 0
RowsReadBack =
    (counts : Counts) (columns : List ColumnOf) (numbers before after : List ℕ) (place number : ℕ) (column : ColumnOf)
    → Fits counts columns numbers
    → slice_get columns place ≡ Some column
    → slice_get numbers place ≡ Some number
    → number_at (before ++ row_bytes counts columns numbers ++ after)
    (length before + columns_width counts (take place columns)) (read_width column.kind counts)
    ≡ number
