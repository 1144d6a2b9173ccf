-- The states of a seat between the steps of one call.
use Rattle.std.specs.Prelude.{◌≡◌, ℕ, ◌%◌, List, [], ◌∷◌, get_or, Option, None}
use Rattle.atomic_table.specs.Table.{Me}
use Rattle.turn_lock.specs.declared.view.View.{View}
use Rattle.turn_lock.specs.Views.{maker_seat, waiting, turning}

module _ {S B E : Type 0} where
  -- the seat waits, with a ticket of which these are the low 64 bits
  abbrev pub Waits : Me (Option S) (View B E) → ℕ → Type 0
  Waits m ticket =
      (m ≡ (waiting m.0.base (get_or m.0.numbers 0 0) (get_or m.0.tickets 0 0) m.0.seen, []))
      × (ticket ≡ get_or m.0.tickets 0 0 % 18446744073709551616)

  -- the seat has the turn under this number, has seen these entries, and its slot is empty
  abbrev pub HoldsEmpty : Me (Option S) (View B E) → ℕ → List E → Type 0
  HoldsEmpty m number seen = m ≡ (turning m.0.base number (get_or m.0.tickets 0 0) seen, (0, None) ∷ [])

  -- the maker has given out as many numbers, and has no seat back
  abbrev pub HasGiven : Me (Option S) (View B E) → ℕ → Type 0
  HasGiven m n = m ≡ (maker_seat m.0.base n [] [] [], [])
