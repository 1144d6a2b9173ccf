-- The entries of contents, and the heaps as they are written: ECMA-335 II.24.2.3 to II.24.2.5.
use Rattle.std.specs.Prelude.{◌≡◌, ℕ, ◌+◌, ◌*◌, ◌/◌, ◌++◌, ◌==◌, ◌&&◌, Bool, true, false, List, [], ◌∷◌, length, nat_le, if◌then◌else◌}
use Rattle.std.specs.List.{flat_map, list_any}
use Rattle.std.specs.Int.{bytes_low_first}
use Rattle.cil_base.specs.Number.{spelled_number}
use Rattle.md_heaps.specs.Pools.{has_entry, with_entry, entry_place, heap_of_entries}
use Rattle.md_heaps.specs.declared.builder.Heaps.{Heaps}

-- no byte is zero
abbrev pub IsText : List ℕ → Type 0
IsText content = list_any (λ byte. byte == 0) content ≡ false

-- a text, and a zero byte after it
abbrev pub text_entry : List ℕ → List ℕ
text_entry content = content ++ 0 ∷ []

-- a blob, and its length before it
unfoldable pub blob_entry : List ℕ → List ℕ
blob_entry content = spelled_number (length content) ++ content

-- the first and the last of each run of units that need more than an 8-bit character set
abbrev pub marked_runs : List (ℕ × ℕ)
marked_runs = (0x01, 0x08) ∷ (0x0E, 0x1F) ∷ (0x27, 0x27) ∷ (0x2D, 0x2D) ∷ (0x7F, 0x7F) ∷ (0x100, 0xFFFF) ∷ []

-- whether the unit lies in one of the runs
abbrev pub is_marked_unit : ℕ → Bool
is_marked_unit unit = list_any (λ run. nat_le run.0 unit && nat_le unit run.1) marked_runs

-- the bytes of UTF-16 units, the low byte of each first
abbrev pub unit_bytes : List ℕ → List ℕ
unit_bytes content = flat_map (bytes_low_first 0 2) content

-- the byte after the units
abbrev pub last_byte : List ℕ → ℕ
last_byte content = if list_any is_marked_unit content then 1 else 0

-- a user string: the length of its bytes and the last one, and these
unfoldable pub user_entry : List ℕ → List ℕ
user_entry content = spelled_number (2 * length content + 1) ++ (unit_bytes content ++ last_byte content ∷ [])

-- the entries of the four heaps; those of #GUID are the GUIDs themselves
pub record HeapEntries : Type 0 where
  pub texts : List (List ℕ)
  pub users : List (List ℕ)
  pub guids : List (List ℕ)
  pub blobs : List (List ℕ)

-- each heap but #GUID begins with a zero byte
abbrev pub first_entries : HeapEntries
first_entries = record { texts = (0 ∷ []) ∷ []; users = (0 ∷ []) ∷ []; guids = []; blobs = (0 ∷ []) ∷ [] }

abbrev pub with_text : HeapEntries → List ℕ → HeapEntries
with_text old content = record old { texts = with_entry old.texts (text_entry content) }

abbrev pub with_user : HeapEntries → List ℕ → HeapEntries
with_user old content = record old { users = with_entry old.users (user_entry content) }

abbrev pub with_guid : HeapEntries → List ℕ → HeapEntries
with_guid old content = record old { guids = with_entry old.guids content }

abbrev pub with_blob : HeapEntries → List ℕ → HeapEntries
with_blob old content = record old { blobs = with_entry old.blobs (blob_entry content) }

-- the number of a GUID that is there: as many GUIDs of sixteen bytes stand before it, and one
abbrev pub IsGuidNumber : List (List ℕ) → List ℕ → ℕ → Type 0
IsGuidNumber entries content number = (has_entry entries content ≡ true) × (number ≡ entry_place entries content / 16 + 1)

-- the heaps as they are written
abbrev pub laid_heaps : HeapEntries → Heaps
laid_heaps entries = record {
  strings = heap_of_entries entries.texts;
  users = heap_of_entries entries.users;
  guids = heap_of_entries entries.guids;
  blobs = heap_of_entries entries.blobs;
}
