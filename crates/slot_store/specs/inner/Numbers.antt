-- How slots are kept: a number for each place of the shape, in a vector for each table, and the values that the numbers
-- count. Contracts cite these words through `kept_slot` alone.
use Rattle.std.specs.Prelude.{◌≡◌, ℕ, zero, suc, ◌+◌, ◌-◌, ◌*◌, ◌^◌, ◌<◌, ◌≤◌, List, [], ◌∷◌, ◌++◌, Option, None, Some}
use Rattle.std.specs.Prelude.{if◌then◌else◌, length, get_or, replicate, slice_get, slice_index}
use Rattle.slot_store.specs.Shape.{is_in_shape}
use Rattle.slot_store.specs.declared.place.Place.{Place}
use Rattle.slot_store.specs.declared.place.Shape.{Shape}

-- where the number of a place stands: its table, and how far into the table's vector, which goes by rows and then by
-- kinds
unfoldable pub location : Shape → Option Place → Option (ℕ × ℕ)
location shape None = None
location shape (Some p) =
    if is_in_shape shape (Some p) then Some (p.table, (p.rid - 1) * slice_index shape.kinds p.table + p.kind) else None

-- the number at a location, 0 where nothing stands there
unfoldable pub stored_number : List (List ℕ) → ℕ × ℕ → ℕ
stored_number numbers at = slice_index (get_or numbers at.0 []) at.1

-- the value of a number, counted from 1
unfoldable pub counted_value : {V : Type 0} → List V → ℕ → Option V
counted_value values zero = None
counted_value values (suc n) = slice_get values n

-- the value of the number at a location, or another one where there is no location
unfoldable pub value_in : {V : Type 0} → List (List ℕ) → List V → Option V → Option (ℕ × ℕ) → Option V
value_in numbers values other None = other
value_in numbers values other (Some at) = counted_value values (stored_number numbers at)

-- the numbers of a table in which nothing is filled
abbrev pub blank_table : Shape → ℕ → List ℕ
blank_table shape table = replicate (slice_index shape.rows table * slice_index shape.kinds table) 0

-- the numbers of the first tables, in which nothing is filled
unfoldable pub blank_numbers : Shape → ℕ → List (List ℕ)
blank_numbers shape zero = []
blank_numbers shape (suc table) = blank_numbers shape table ++ blank_table shape table ∷ []

-- numbers of so many values: one for each place of the shape, and no two of them those of one value
pub record IsNumbering (shape : Shape) (numbers : List (List ℕ)) (count : ℕ) : Type 0 where
  pub tables : length numbers ≡ 64
  pub sizes : (t : ℕ) → t < 64 → length (get_or numbers t []) ≡ slice_index shape.rows t * slice_index shape.kinds t
  pub counted : (a : ℕ × ℕ) → stored_number numbers a ≤ count
  pub distinct : (a b : ℕ × ℕ) → 0 < stored_number numbers a → stored_number numbers a ≡ stored_number numbers b → a ≡ b

-- so many values and so many more fit into the memory that they have, and each of their numbers into 32 bits
abbrev pub HasRoom : ℕ → ℕ → ℕ → Type 0
HasRoom count spare capacity = (count + spare ≤ capacity) × (count + spare < 2 ^ 32)
