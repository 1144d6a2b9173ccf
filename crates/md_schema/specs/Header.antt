-- The header of the tables stream: ECMA-335 II.24.2.6.
use Rattle.std.specs.Prelude.{ℕ, ◌≡◌, ◌+◌, ◌*◌, ◌/◌, ◌%◌, ◌^◌, ◌==◌, Bool, true, List, map, IsSome, if◌then◌else◌}
use Rattle.std.specs.List.{range_with_len, sum}
use Rattle.cil_base.specs.Place.{number_at}
use Rattle.md_schema.specs.Entry.{columns_of}

-- the sum of f at the numbers below n
unfoldable pub sum_below : (ℕ → ℕ) → ℕ → ℕ
sum_below f n = sum (map f (range_with_len 0 n))

-- Valid, 8 bytes from place 8
abbrev pub valid_of : List ℕ → ℕ
valid_of stream = number_at stream 8 8

-- whether a bit of Valid stands: the table is in the stream
abbrev pub is_set : ℕ → ℕ → Bool
is_set valid table = (valid / 2 ^ table) % 2 == 1

abbrev pub is_present : List ℕ → ℕ → Bool
is_present stream table = is_set (valid_of stream) table

-- how many tables of lesser number are in the stream
abbrev pub present_below : List ℕ → ℕ → ℕ
present_below stream table = sum_below (λ lesser. if is_present stream lesser then 1 else 0) table

-- the rows of a table: from place 24 on there is a number of 4 bytes for each table that is in the stream
abbrev pub count_of : List ℕ → ℕ → ℕ
count_of stream table =
    if is_present stream table then number_at stream (24 + 4 * present_below stream table) 4 else 0

-- a table of the stream is one of the 38
abbrev pub IsSupported : List ℕ → ℕ → Type 0
IsSupported stream table = is_present stream table ≡ true → IsSome (columns_of table)
