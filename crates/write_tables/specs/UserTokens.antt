-- The tokens of user strings, and when the heap of these is too large: ECMA-335 II.24.2.4, III.1.9.
use Rattle.std.specs.Prelude.{ℕ, ◌+◌, ◌^◌, List, map, length, nat_lt, Option, Some, None, if◌then◌else◌}
use Rattle.md_heaps.specs.LaidHeaps.{user_entry}
use Rattle.md_heaps.specs.Pools.{entry_place, heap_of_entries}
use Rattle.write_plan.specs.Planned.{Planned}
use Rattle.write_plan.specs.declared.refusal.WriteRefusal.{WriteRefusal}
use Rattle.write_plan.specs.declared.refusal.WriteRefusal.TheVariants.{TooMany}
use Rattle.write_tables.specs.Contents.{written_entries}
use Rattle.write_tables.specs.UserStrings.{method_strings}

-- the number of a token that loads a user string: 0x70 in the highest byte, and the index in #US
abbrev pub string_token : List (List ℕ) → List ℕ → ℕ
string_token users units = 0x70000000 + entry_place users (user_entry units)

-- those of the ldstr instructions of each MethodDef row, in order
unfoldable pub string_tokens : Planned → List (List ℕ)
string_tokens plan = map (λ strings. map (string_token (written_entries plan).users) strings) (method_strings plan)

-- a heap of so many bytes, as a token has 24 bits for the index
abbrev pub too_large_users : ℕ → Option WriteRefusal
too_large_users size = if nat_lt (2 ^ 24) size then Some (TooMany 0x70 size) else None

-- that of what is planned, with its padding
unfoldable pub too_many_users : Planned → Option WriteRefusal
too_many_users plan = too_large_users (length (heap_of_entries (written_entries plan).users))
