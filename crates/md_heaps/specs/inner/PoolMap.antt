-- How a pool keeps its entries: a map from each to its place. No public contract cites these words.
use Rattle.std.specs.Prelude.{◌≡◌, ℕ, ◌+◌, List, [], ◌∷◌, Option, length, nat_eq, if◌then◌else◌, is_some}
use Rattle.std.specs.Map.{keys_of, lookup}
use Rattle.std.specs.Cmp.Lexicographic.{pointwise}
use Rattle.indexmap.specs.IndexMap.{insert_entry}
use Rattle.md_heaps.specs.Pools.{joined_entries}

-- each entry with its place, where the first stands at a place
abbrev pub placed_from : ℕ → List (List ℕ) → List (List ℕ × ℕ)
placed_from place [] = []
placed_from place (entry ∷ entries) = (entry, place) ∷ placed_from (place + length entry) entries

-- what is kept: each entry with its place, and the size of all
pub record IsPoolMap (kept : List (List ℕ × ℕ)) (size : ℕ) : Type 0 where
  pub places : kept ≡ placed_from 0 (keys_of kept)
  pub total : size ≡ length (joined_entries (keys_of kept))

-- the place of an entry, where it is kept
abbrev pub kept_place : List (List ℕ × ℕ) → List ℕ → Option ℕ
kept_place kept entry = lookup (pointwise nat_eq entry) kept

-- what is kept once an entry is there: a new one goes last, with the place
abbrev pub kept_with : List (List ℕ × ℕ) → List ℕ → ℕ → List (List ℕ × ℕ)
kept_with kept entry place = if is_some (kept_place kept entry) then kept else insert_entry (pointwise nat_eq) kept entry place

-- the first entry is a zero byte: that of the empty text, or of the empty blob
abbrev pub BeginsWithZero : List (List ℕ) → Type 0
BeginsWithZero entries = (rest : List (List ℕ)) × (entries ≡ (0 ∷ []) ∷ rest)

-- each entry has sixteen bytes
abbrev pub AreGuids : List (List ℕ) → Type 0
AreGuids [] = Unit {0}
AreGuids (first ∷ rest) = (length first ≡ 16) × AreGuids rest
