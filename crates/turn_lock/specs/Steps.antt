-- What each step of the lock tells its caller: the seat before, the number that was found, and the seat after.
use Rattle.std.specs.Prelude.{◌≡◌, ◌≢◌, ℕ, ◌+◌, ◌%◌, true, false, List, [], ◌∷◌, ◌++◌, map, length, take, nat_le, if◌then◌else◌, Option, Some}
use mathlib.Core.List.{IsPrefix}
use Rattle.atomic_table.specs.Table.{Me}
use Rattle.turn_lock.specs.declared.view.View.{View}
use Rattle.turn_lock.specs.Views.{own, maker_seat, caller_seat}

module _ {S B E : Type 0} where
  -- the maker holds the number that it found, to give it, and one more is drawn
  abbrev pub DrawsNumber : Me (Option S) (View B E) → ℕ → Me (Option S) (View B E) → Type 0
  DrawsNumber m r m' = (m' ≡ (record m.0 { next = r + 1; to_give = r ∷ [] }, m.1)) × (r ≡ m.0.next)

  -- the seat holds a ticket, of which the number found is the low 64 bits
  abbrev pub DrawsTicket : Me (Option S) (View B E) → ℕ → Me (Option S) (View B E) → Type 0
  DrawsTicket m r m' = (t : ℕ) × (m' ≡ (record m.0 { tickets = t ∷ [] }, m.1)) × (r ≡ t % 18446744073709551616)

module _ {S B E : Type 0} (base : S → B) (entries : S → List E) (caller : E → ℕ) where
  -- The seat has the turn, and the slot with the state x. It has seen all of its entries, which begin with what it had seen,
  -- and those of its own number are those that it had seen
  abbrev pub Finds : Me (Option S) (View B E) → S → Me (Option S) (View B E) → Type 0
  Finds m x m' =
      (m' ≡ (record m.0 { has_turn = true; seen = entries x }, (0, Some x) ∷ m.1))
      × (m.0.base ≡ Some (base x))
      × IsPrefix m.0.seen (entries x)
      × ((k : ℕ) → m.0.numbers ≡ k ∷ [] → own caller k (entries x) ≡ own caller k m.0.seen)

  -- where the seat's ticket is served it takes the turn, and else it stays as it was
  abbrev pub LooksAtServing : Me (Option S) (View B E) → ℕ → Me (Option S) (View B E) → Type 0
  LooksAtServing m r m' =
      (t : ℕ) → m.0.tickets ≡ t ∷ []
      → (r ≡ t % 18446744073709551616 → (x : S) × Finds m x m') × (r ≢ t % 18446744073709551616 → m' ≡ m)

module _ {S B E : Type 0} where
  -- the seat has seen one more of these entries
  abbrev pub CountsEntry : List E → Me (Option S) (View B E) → ℕ → Me (Option S) (View B E) → Type 0
  CountsEntry entries m r m' = m' ≡ (record m.0 { seen = take (length m.0.seen + 1) entries }, m.1)

  -- the seat holds neither ticket nor slot
  abbrev pub PassesOn : Me (Option S) (View B E) → ℕ → Me (Option S) (View B E) → Type 0
  PassesOn m r m' = m' ≡ (record m.0 { tickets = []; has_turn = false }, [])

abbrev pub longer : {E : Type 0} → List E → List E → List E
longer xs ys = if nat_le (length xs) (length ys) then ys else xs

module _ {B E : Type 0} where
  -- a split leaves the maker without the number that it had to give
  abbrev pub maker_left : View B E → View B E
  maker_left v = maker_seat v.base v.next [] v.joined v.seen

  -- and the new seat has it, and has seen nothing
  abbrev pub new_seat : View B E → View B E
  new_seat v = caller_seat v.base v.to_give [] false []

  -- a join leaves the maker with the numbers of the joined seat, each with what that seat had seen
  abbrev pub joined_by : View B E → View B E → View B E
  joined_by v w = record v { joined = map (λ k. (k, w.seen)) w.numbers ++ v.joined; seen = longer v.seen w.seen }
