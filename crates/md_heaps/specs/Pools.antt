-- The entries of one heap in the order of their first use, each once: ECMA-335 II.24.2.3 to II.24.2.5.
use Rattle.std.specs.Prelude.{◌≡◌, ℕ, ◌+◌, ◌-◌, ◌%◌, ◌++◌, Bool, true, List, [], ◌∷◌, length, replicate, nat_eq, if◌then◌else◌}
use Rattle.std.specs.List.{flat_map, list_any}
use Rattle.std.specs.Cmp.Lexicographic.{pointwise}

-- whether these very bytes are among the entries
abbrev pub has_entry : List (List ℕ) → List ℕ → Bool
has_entry entries entry = list_any (pointwise nat_eq entry) entries

-- the entries once this one is used: one that is there changes nothing, a new one goes last
abbrev pub with_entry : List (List ℕ) → List ℕ → List (List ℕ)
with_entry entries entry = if has_entry entries entry then entries else entries ++ entry ∷ []

-- the sizes of the entries before this one, together
abbrev pub entry_place : List (List ℕ) → List ℕ → ℕ
entry_place [] entry = 0
entry_place (first ∷ rest) entry = if pointwise nat_eq entry first then 0 else length first + entry_place rest entry

-- the entry is there, and this is its place
abbrev pub StandsAt : List (List ℕ) → List ℕ → ℕ → Type 0
StandsAt entries entry place = (has_entry entries entry ≡ true) × (place ≡ entry_place entries entry)

-- what stood at a place still stands there
abbrev pub EntriesStay : List (List ℕ) → List (List ℕ) → Type 0
EntriesStay old new = (entry : List ℕ) (place : ℕ) → StandsAt old entry place → StandsAt new entry place

-- the entries one after the other
abbrev pub joined_entries : List (List ℕ) → List ℕ
joined_entries entries = flat_map (λ entry. entry) entries

-- zero bytes up to a multiple of 4
abbrev pub heap_padding : ℕ → List ℕ
heap_padding size = replicate ((4 - size % 4) % 4) 0

-- the heap of the entries
abbrev pub heap_of_entries : List (List ℕ) → List ℕ
heap_of_entries entries = joined_entries entries ++ heap_padding (length (joined_entries entries))
