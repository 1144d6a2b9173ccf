-- Slots by their keys, as a finite map: the slot of each key, and how a call changes it.
use Rattle.std.specs.Prelude.{◌≡◌, ℕ, Bool, true, false, List, Option, Some, if◌then◌else◌}
use Rattle.std.specs.Map.{lookup}
use Rattle.slot_store.specs.declared.place.Place.{Place}
use Rattle.slot_store.specs.declared.place.Shape.{Shape}
use Rattle.slot_store.specs.inner.Numbers.{location, value_in}

-- a store: its shape, how many slots of keys in the shape can be put in without taking memory, and what it keeps, of
-- which contracts see `kept_slot` alone
pub record SlotMap (K V : Type 0) : Type 0 where
  pub shape : Shape
  pub spare : ℕ
  pub numbers : List (List ℕ)
  pub values : List V
  pub others : List (K × V)

-- the slot of a key, if it has one: by its place where that is in the shape, else by the key itself
unfoldable pub kept_slot : {K V : Type 0} → (K → Option Place) → (K → K → Bool) → SlotMap K V → K → Option V
kept_slot place eq slots key =
    value_in slots.numbers slots.values (lookup (eq key) slots.others) (location slots.shape (place key))

-- every key has the slot that it had
abbrev pub SlotsStay : {K V : Type 0} → (K → Option Place) → (K → K → Bool) → SlotMap K V → SlotMap K V → Type 0
SlotsStay {K = K} place eq old new = (k : K) → kept_slot place eq new k ≡ kept_slot place eq old k

-- the key has this slot, or none, and every other key has the slot that it had
abbrev pub ChangesSlot : {K V : Type 0}
    → (K → Option Place) → (K → K → Bool) → SlotMap K V → SlotMap K V → K → Option V → Type 0
ChangesSlot {K = K} place eq old new key slot =
    (k : K) → kept_slot place eq new k ≡ (if eq key k then slot else kept_slot place eq old k)

-- by the answer: the key has this slot and every other key what it had, or nothing changed
abbrev pub PutsSlot : {K V : Type 0}
    → (K → Option Place) → (K → K → Bool) → SlotMap K V → SlotMap K V → K → V → Bool → Type 0
PutsSlot place eq old new key value true = ChangesSlot place eq old new key (Some value)
PutsSlot place eq old new key value false = new ≡ old
