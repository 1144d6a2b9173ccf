-- A row's numbers in given widths, for private contracts.
use Rattle.std.specs.Prelude.{ℕ, List, [], ◌∷◌, ◌++◌, map}
use Rattle.byteorder.specs.Endian.{little_bytes}
use Rattle.md_schema.specs.Width.{column_width_of}
use Rattle.md_schema.specs.declared.column.Column.{Column}
use Rattle.md_schema.specs.declared.column_width.Counts.{Counts}

-- the bytes of each column
abbrev pub widths_of : Counts → List Column → List ℕ
widths_of counts columns = map (λ (column : Column). column_width_of column.kind counts) columns

abbrev pub bytes_in_widths : List ℕ → List ℕ → List ℕ
bytes_in_widths [] numbers = []
bytes_in_widths (width ∷ widths) [] = []
bytes_in_widths (width ∷ widths) (number ∷ numbers) = little_bytes width number ++ bytes_in_widths widths numbers
