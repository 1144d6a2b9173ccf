-- Where the numbers of one column stand, row by row: ECMA-335 II.22 and II.24.2.6.
use Rattle.std.specs.Prelude.{◌≡◌, ℕ, ◌+◌, ◌-◌, ◌*◌, ◌≤◌, ◌⊎◌, List, length}
use Rattle.cil_base.specs.Place.{number_at}
use Rattle.md_schema.specs.Cell.{IsRowOf, cell_of}
use Rattle.md_schema.specs.Layout.{Head}
use Rattle.md_tables.specs.declared.column_places.ColumnPlaces.{ColumnPlaces}

-- where the number of a row stands
abbrev pub place_in : ColumnPlaces → ℕ → ℕ
place_in places rid = places.first + (rid - 1) * places.step

-- the bytes of a number that is read
abbrev pub IsReadWidth : ℕ → Type 0
IsReadWidth width = (width ≡ 1) ⊎ (width ≡ 2) ⊎ (width ≡ 4)

-- the numbers of a column are those at these places
pub record ReadsColumn (stream : List ℕ) (head : Head) (table column : ℕ) (places : ColumnPlaces) : Type 0 where
  pub width : IsReadWidth places.width
  pub within : (rid : ℕ) → IsRowOf head table rid → place_in places rid + places.width ≤ length stream
  pub number : (rid : ℕ) → IsRowOf head table rid
      → number_at stream (place_in places rid) places.width ≡ cell_of stream table rid column
