-- What the steps of opening a stream keep, for their own contracts: ECMA-335 II.24.2.6.
use Rattle.std.specs.Prelude.{ℕ, ◌≡◌, ◌<◌, ◌≤◌, ◌+◌, ◌*◌, ◌^◌, true, List, map, length, slice_index}
use Rattle.std.specs.List.{range_with_len}
use Rattle.md_schema.specs.Header.{count_of, is_present, present_below}
use Rattle.md_schema.specs.Layout.{Head, first_place, table_row_width}

-- the count of a table that was read
pub record IsCount (stream : List ℕ) (table count : ℕ) : Type 0 where
  pub value : count ≡ count_of stream table
  pub few : count < 2 ^ 24
  pub within : is_present stream table ≡ true → 24 + 4 * (present_below stream table + 1) ≤ length stream

-- the counts that were read
pub record IsCounted (stream counts : List ℕ) (number : ℕ) : Type 0 where
  pub rows : counts ≡ map (count_of stream) (range_with_len 0 64)
  pub present : number ≡ present_below stream 64
  pub counted : 24 + 4 * number ≤ length stream
  pub few : (table : ℕ) → table < 64 → count_of stream table < 2 ^ 24
  pub within : number ≤ 64

-- the places and the widths that are kept
pub record IsLaidOut (head : Head) (places bytes : List ℕ) : Type 0 where
  pub starts : (table : ℕ) → table < 64 → slice_index places table ≡ first_place head table
  pub widths : (table : ℕ) → table < 64 → slice_index bytes table ≡ table_row_width head.counts table
