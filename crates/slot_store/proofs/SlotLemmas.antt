-- The slot of each key after a change at one location, or in the map.
use Rattle.std.proofs.Common.{◌≡◌, ◌⊎◌, inl, inr, refl, sym, ◌∙◌, ap, ℕ, zero, suc, ◌+◌, ◌<◌, arith}
use Rattle.std.proofs.Common.{Bool, false, cond, Option, Some, None, is_none, [], ◌∷◌, ◌++◌, length, set}
use Rattle.std.specs.Prelude.{slice_get}
use Rattle.std.specs.Map.{lookup}
use Rattle.slot_store.specs.Shape.{is_in_shape}
use Rattle.slot_store.specs.SlotMap.{ChangesSlot, SlotMap, kept_slot}
use Rattle.slot_store.specs.inner.Numbers.{IsNumbering, blank_numbers, counted_value, location, stored_number, value_in}
use Rattle.slot_store.specs.inner.PlaceLaws.{same_item}
use Rattle.slot_store.specs.declared.place.Place.{Place}
use Rattle.slot_store.specs.declared.place.Shape.{Shape}
use Rattle.slot_store.proofs.LocationLemmas.{KeyLaws, keys_of_one, keys_of_two, same_or_not, some_is_not_none}
use Rattle.slot_store.proofs.NumberLemmas.{IsWithin, blank_number, is_within, with_number}
use Rattle.slot_store.proofs.NumberLemmas.{number_elsewhere, number_here}
use Rattle.slot_store.proofs.ValueLemmas.{value_before, value_last, value_set, value_some, value_unset}

-- the value at a location of a store
abbrev pub value_there : {K V : Type 0} → SlotMap K V → ℕ × ℕ → Option V
value_there slots at = counted_value slots.values (stored_number slots.numbers at)

-- no key has a slot where nothing is filled
pub blank_value : {V : Type 0} (shape : Shape) (o : Option (ℕ × ℕ))
    → value_in {V = V} (blank_numbers shape 64) [] None o ≡ None
unfolding value_in counted_value
blank_value shape None = refl
blank_value {V = V} shape (Some at) = ap (counted_value {V = V} []) (blank_number shape 64 at) ∙ none
  where
    none : counted_value {V = V} [] zero ≡ None
    none = refl

pub same_shape : {K V : Type 0} (a b : SlotMap K V) → a ≡ b → a.shape ≡ b.shape
same_shape {K = K} {V = V} a b same = ap (λ (slots : SlotMap K V). slots.shape) same

pub same_spare : {K V : Type 0} (a b : SlotMap K V) → a ≡ b → a.spare ≡ b.spare
same_spare {K = K} {V = V} a b same = ap (λ (slots : SlotMap K V). slots.spare) same

pub no_location : (shape : Shape) (o : Option Place) → is_in_shape shape o ≡ false → location shape o ≡ None
unfolding location
no_location shape None outside = refl
no_location shape (Some p) outside = rw outside refl

module _ {K V : Type 0} (place : K → Option Place) (eq : K → K → Bool) (slots : SlotMap K V) (key : K) where
  pub slot_there : (at : ℕ × ℕ) → location slots.shape (place key) ≡ Some at
      → kept_slot place eq slots key ≡ value_there slots at
  unfolding kept_slot value_in
  slot_there at is = ap (value_in slots.numbers slots.values (lookup (eq key) slots.others)) is

  pub slot_other : location slots.shape (place key) ≡ None
      → kept_slot place eq slots key ≡ lookup (eq key) slots.others
  unfolding kept_slot value_in
  slot_other is = ap (value_in slots.numbers slots.values (lookup (eq key) slots.others)) is

  pub slot_filled : (at : ℕ × ℕ) → location slots.shape (place key) ≡ Some at
      → IsNumbering slots.shape slots.numbers (length slots.values)
      → 0 < stored_number slots.numbers at → is_none (kept_slot place eq slots key) ≡ false
  slot_filled at is numbering filled =
      ap is_none (slot_there at is)
      ∙ value_some slots.values (stored_number slots.numbers at) filled (numbering.counted at)

  pub slot_free : (at : ℕ × ℕ) → location slots.shape (place key) ≡ Some at → stored_number slots.numbers at ≡ zero
      → kept_slot place eq slots key ≡ None
  unfolding counted_value
  slot_free at is free = slot_there at is ∙ ap (counted_value slots.values) free

  pub slot_counted : (at : ℕ × ℕ) (i : ℕ) (value : V) → location slots.shape (place key) ≡ Some at
      → stored_number slots.numbers at ≡ suc i
      → slice_get slots.values i ≡ Some value → Some value ≡ kept_slot place eq slots key
  unfolding counted_value
  slot_counted at i value is number there = sym (slot_there at is ∙ ap (counted_value slots.values) number ∙ there)

module _ {K V : Type 0} (place : K → Option Place) (eq : K → K → Bool) (laws : KeyLaws place eq)
    (old new : SlotMap K V) (key : K) (shape : new.shape ≡ old.shape) where
  -- a change of what stands at the key's location, and nowhere else
  pub changes_there : (at : ℕ × ℕ) (slot : Option V) → location old.shape (place key) ≡ Some at
      → value_there new at ≡ slot → ((b : ℕ × ℕ) → (at ≡ b → ⊥) → value_there new b ≡ value_there old b)
      → new.others ≡ old.others → ChangesSlot place eq old new key slot
  unfolding kept_slot value_in
  changes_there at slot is here elsewhere others = λ k.
      rw (shape, others) (by k (location old.shape (place k)) refl)
    where
      by : (k : K) (o : Option (ℕ × ℕ)) → location old.shape (place k) ≡ o
          → value_in new.numbers new.values (lookup (eq k) old.others) o
          ≡ cond (eq key k) slot (value_in old.numbers old.values (lookup (eq k) old.others) o)
      by k None none =
          rw (keys_of_two place eq laws old.shape key k (λ same. some_is_not_none (sym is ∙ same ∙ none))) refl
      by k (Some b) there = cases (same_or_not at b)
        where
          cases : (at ≡ b) ⊎ (at ≡ b → ⊥) → value_there new b ≡ cond (eq key k) slot (value_there old b)
          cases (inl same) =
              rw (keys_of_one place eq laws old.shape key k at is (there ∙ ap Some (sym same)))
              (ap (value_there new) (sym same) ∙ here)
          cases (inr other) =
              rw (keys_of_two place eq laws old.shape key k (λ same. other (same_item (sym is ∙ same ∙ there))))
              (elsewhere b other)

  -- a value more, and its number at the key's location
  pub put_changes : (at : ℕ × ℕ) (number : ℕ) (value : V) → location old.shape (place key) ≡ Some at
      → IsNumbering old.shape old.numbers (length old.values) → number ≡ length old.values + 1
      → new.numbers ≡ with_number old.numbers at number
      → new.values ≡ old.values ++ value ∷ [] → new.others ≡ old.others → ChangesSlot place eq old new key (Some value)
  put_changes at number value is numbering number_is numbers values =
      changes_there at (Some value) is here elsewhere
    where
      within : IsWithin old.numbers at
      within = is_within old.shape old.numbers (length old.values) (place key) at numbering is

      here : value_there new at ≡ Some value
      here =
          rw (numbers, number_is, values, number_here old.numbers at (length old.values + 1) within)
          (value_last old.values value)

      elsewhere : (b : ℕ × ℕ) → (at ≡ b → ⊥) → value_there new b ≡ value_there old b
      elsewhere b other =
          rw (numbers, number_is, values, number_elsewhere old.numbers at b (length old.values + 1) within other)
          (value_before old.values value (stored_number old.numbers b) (numbering.counted b))

  -- another value for the number at the key's location
  pub exchange_changes : (at : ℕ × ℕ) (i : ℕ) (value : V) → location old.shape (place key) ≡ Some at
      → IsNumbering old.shape old.numbers (length old.values) → stored_number old.numbers at ≡ suc i
      → new.numbers ≡ old.numbers → new.values ≡ set old.values i value → new.others ≡ old.others
      → ChangesSlot place eq old new key (Some value)
  exchange_changes at i value is numbering number numbers values =
      changes_there at (Some value) is here elsewhere
    where
      here : value_there new at ≡ Some value
      here =
          rw (numbers, values, number)
          (value_set old.values value i (omega (arith, number, numbering.counted at)))

      elsewhere : (b : ℕ × ℕ) → (at ≡ b → ⊥) → value_there new b ≡ value_there old b
      elsewhere b other =
          rw (numbers, values)
          (value_unset old.values value i (stored_number old.numbers b)
          (λ same. other (numbering.distinct at b (omega (arith, number)) (number ∙ sym same))))

  -- a change of the map at a key that has no location
  pub other_changes : (slot : Option V) → location old.shape (place key) ≡ None
      → new.numbers ≡ old.numbers → new.values ≡ old.values
      → ((k : K) → lookup (eq k) new.others ≡ cond (eq key k) slot (lookup (eq k) old.others))
      → ChangesSlot place eq old new key slot
  unfolding kept_slot value_in
  other_changes slot none numbers values others = λ k.
      rw (shape, numbers, values) (by k (location old.shape (place k)) refl)
    where
      by : (k : K) (o : Option (ℕ × ℕ)) → location old.shape (place k) ≡ o
          → value_in old.numbers old.values (lookup (eq k) new.others) o
          ≡ cond (eq key k) slot (value_in old.numbers old.values (lookup (eq k) old.others) o)
      by k None _ = others k
      by k (Some b) there =
          rw (keys_of_two place eq laws old.shape key k (λ same. some_is_not_none (sym there ∙ sym same ∙ none))) refl
