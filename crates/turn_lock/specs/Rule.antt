-- The rule of the lock: what holds, between any two steps, of the four words, the slot and all views.
use Rattle.std.specs.Prelude.{◌≡◌, ℕ, ◌+◌, ◌%◌, ◌<◌, ◌≤◌, ◌⊎◌, true, false, List, [], ◌∷◌, length, Option, Some}
use mathlib.Core.Option.{none, some}
use mathlib.Core.Option as maybe
use mathlib.Core.List.{IsPrefix}
use lib.ListN.{get_elem?}
use Rattle.atomic_table.specs.Table.{State}
use Rattle.turn_lock.specs.declared.view.View.{View}
use Rattle.turn_lock.specs.Views.{total, times, own, Each, named, names, making}

module _ {B E : Type 0} where
  -- Maker. One seat is the maker. All numbers below `next`, and no others, stand in the views, each once:
  -- with a seat, with a joined seat, or still to be given
  pub record OneMaker (next : ℕ) (views : List (View B E)) : Type 0 where
    pub one : total making views ≡ 1
    pub small : next < 4294967296
    pub knows : Each views (λ v. v.is_maker ≡ true → (v.next ≡ next) × (v.numbers ≡ []) × (v.tickets ≡ []) × (v.has_turn ≡ false) × (length v.to_give ≤ 1))
    pub below : (k : ℕ) → k < next → total (named k) views ≡ 1
    pub beyond : (k : ℕ) → next ≤ k → total (named k) views ≡ 0
    pub all : total names views ≡ next

  -- Tickets. Seats with a number hold the tickets from the one that is served to the last one drawn, each once
  pub record Ticketed (served drawn : ℕ) (views : List (View B E)) : Type 0 where
    pub held : (t : ℕ) → served ≤ t → t < drawn → total (λ (v : View B E). times t v.tickets) views ≡ 1
    pub past : (t : ℕ) → t < served → total (λ (v : View B E). times t v.tickets) views ≡ 0
    pub later : (t : ℕ) → drawn ≤ t → total (λ (v : View B E). times t v.tickets) views ≡ 0
    pub count : served + total (λ (v : View B E). length v.tickets) views ≡ drawn
    pub each : Each views (λ v. length v.tickets ≤ length v.numbers)

  -- Turn. Who has the turn holds the ticket that is served, and has seen the whole history
  abbrev pub HasTurn : ℕ → List E → View B E → Type 0
  HasTurn served history v = v.has_turn ≡ true → (v.tickets ≡ served ∷ []) × (v.seen ≡ history)

  -- The base is in each view of a maker or of a seat with a number
  abbrev pub Based : B → List (View B E) → Type 0
  Based b views = Each views (λ v. 0 < making v + length v.numbers → v.base ≡ Some b)

  -- Own. The history's entries of a seat's number are those that the seat has seen
  abbrev pub OwnsOf : (E → ℕ) → List E → View B E → Type 0
  OwnsOf caller history v = (k : ℕ) → v.numbers ≡ k ∷ [] → own caller k history ≡ own caller k v.seen

  -- a number that is still to be given has no entry
  abbrev pub NoneToGive : (E → ℕ) → List E → View B E → Type 0
  NoneToGive caller history v = (k : ℕ) → v.to_give ≡ k ∷ [] → own caller k history ≡ []

  -- the same of each joined seat
  abbrev pub JoinedOf : (E → ℕ) → List E → View B E → Type 0
  JoinedOf caller history v = (i k : ℕ) (seen : List E) → get_elem? v.joined i ≡ some (k, seen) → IsPrefix seen history × (own caller k history ≡ own caller k seen)

  -- Seen and Own. What each seat has seen begins the history, and no number that is not drawn has an entry
  pub record Told (caller : E → ℕ) (next : ℕ) (history : List E) (views : List (View B E)) : Type 0 where
    pub seen : Each views (λ v. IsPrefix v.seen history)
    pub owns : Each views (OwnsOf caller history)
    pub to_give : Each views (NoneToGive caller history)
    pub joined : Each views (JoinedOf caller history)
    pub none_beyond : (k : ℕ) → next ≤ k → own caller k history ≡ []

module _ {S B E : Type 0} (base : S → B) (entries : S → List E) (b : B) (history : List E) (slot : maybe.Option (Option S)) (views : List (View B E)) where
  -- Home. The slot is home with the state in it, and nobody has the turn
  pub record IsHome : Type 0 where
    pub state : S
    pub here : slot ≡ some (Some state)
    pub same : base state ≡ b
    pub whole : entries state ≡ history
    pub free : Each views (λ v. v.has_turn ≡ false)

  -- or the slot is out with a seat that has the turn
  pub record IsOut : Type 0 where
    pub seat : ℕ
    pub view : View B E
    pub gone : slot ≡ none
    pub at : get_elem? views seat ≡ some view
    pub has : view.has_turn ≡ true

module _ {S B E : Type 0} (base : S → B) (entries : S → List E) (caller : E → ℕ) (b : B) where
  -- the whole rule; `served` and `drawn` are serving and ticket, as if these words did not wrap
  pub record Kept (s : State (Option S) (View B E)) : Type 0 where
    pub served : ℕ
    pub drawn : ℕ
    pub next : ℕ
    pub history : List E
    pub slot : maybe.Option (Option S)
    pub words : s.words ≡ drawn % 18446744073709551616 ∷ served % 18446744073709551616 ∷ length history ∷ next ∷ []
    pub homes : s.homes ≡ slot ∷ []
    pub maker : OneMaker next s.views
    pub tickets : Ticketed served drawn s.views
    pub turn : Each s.views (HasTurn served history)
    pub based : Based b s.views
    pub home : IsHome base entries b history slot s.views ⊎ IsOut base entries b history slot s.views
    pub told : Told caller next history s.views
