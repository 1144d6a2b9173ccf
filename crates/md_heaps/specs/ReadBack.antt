-- What a finished heap says of the contents that were put in: each is read at its index.
use Rattle.std.specs.Prelude.{◌≡◌, ℕ, ◌+◌, ◌*◌, ◌<◌, ◌^◌, List, length, Some}
use Rattle.cil_base.specs.Heaps.{units}
use Rattle.md_heaps.specs.Entries.{text, blob, guid}
use Rattle.md_heaps.specs.declared.guid.GuidAt.TheVariants.{Is}
use Rattle.md_heaps.specs.Pools.{StandsAt}
use Rattle.md_heaps.specs.LaidHeaps.{IsText, IsGuidNumber, text_entry, user_entry, blob_entry, unit_bytes}

abbrev pub TextsReadBack : List (List ℕ) → List ℕ → Type 0
TextsReadBack entries heap =
    (content : List ℕ) (index : ℕ) → IsText content → StandsAt entries (text_entry content) index → text heap index ≡ Some content

abbrev pub UsersReadBack : List (List ℕ) → List ℕ → Type 0
UsersReadBack entries heap =
    (content : List ℕ) (index : ℕ) → 2 * length content + 1 < 2 ^ 29 → StandsAt entries (user_entry content) index
    → units heap index ≡ Some (unit_bytes content)

abbrev pub GuidsReadBack : List (List ℕ) → List ℕ → Type 0
GuidsReadBack entries heap =
    (content : List ℕ) (number : ℕ) → IsGuidNumber entries content number → guid heap number ≡ Is content

abbrev pub BlobsReadBack : List (List ℕ) → List ℕ → Type 0
BlobsReadBack entries heap =
    (content : List ℕ) (index : ℕ) → length content < 2 ^ 29 → StandsAt entries (blob_entry content) index
    → blob heap index ≡ Some content
