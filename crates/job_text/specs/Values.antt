-- What a job asks of a JSON value. A number is one that is given without a fraction and without an exponent.
use Rattle.std.specs.Prelude.{ℕ, ℤ, List, [], ◌∷◌, Bool, ◌||◌, int_lt, nat_lt, if◌then◌else◌, Option, Some, None, is_some}
use Rattle.std.specs.Prelude.{option_map, unwrap_or}
use Rattle.std.specs.Option.{option_map_or}
use Rattle.cil_base.specs.Steps.{◌>>=◌}
use Rattle.serde_json.specs.Data.{Data, null, Items, no_items, item}
use Rattle.serde_json.specs.Events.{members_len}
use Rattle.serde_json.specs.Find.{as_array, as_bool, as_i64, as_null, as_number, as_object, as_str, as_u64, get}

abbrev pub list_of : Items → List Data
list_of no_items = []
list_of (item d ds) = d ∷ list_of ds

-- the items of a list, in order
unfoldable pub given_list : Data → Option (List Data)
given_list d = option_map list_of (as_array d)

-- the bytes of a text
unfoldable pub given_text : Data → Option (List ℕ)
given_text d = as_str d

unfoldable pub given_flag : Data → Option Bool
given_flag d = as_bool d

unfoldable pub is_null : Data → Bool
is_null d = is_some (as_null d)

-- n, where it is below the bound
abbrev pub below : ℕ → ℕ → Option ℕ
below bound n = if nat_lt n bound then Some n else None

-- a number from 0 on and below the bound
unfoldable pub given_number : ℕ → Data → Option ℕ
given_number bound d = as_number d >>= as_u64 >>= below bound

-- z, where it is between two numbers
abbrev pub between : ℤ → ℤ → ℤ → Option ℤ
between low high z = if int_lt z low || int_lt high z then None else Some z

-- a number from one number to another
unfoldable pub given_integer : ℤ → ℤ → Data → Option ℤ
given_integer low high d = as_number d >>= as_i64 >>= between low high

-- how many members an object has; none of another value
unfoldable pub member_count : Data → ℕ
member_count d = option_map_or members_len (as_object d) 0

-- an object's member of that name, or null
unfoldable pub member : List ℕ → Data → Data
member name d = unwrap_or (get name d) null
