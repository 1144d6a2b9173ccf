-- What the lock knows once seats have been joined.
use Rattle.std.specs.Prelude.{◌≡◌, ℕ, ◌<◌, ◌≤◌, List, [], map, Option}
use mathlib.Core.Option.{some}
use mathlib.Core.List.{IsPrefix}
use lib.ListN.{get_elem?}
use Rattle.atomic_table.specs.Table.{Me}
use Rattle.turn_lock.specs.declared.view.View.{View}
use Rattle.turn_lock.specs.Views.{own, maker_seat}
use Rattle.turn_lock.specs.Passes.{PassValue}

-- each number below n stands in the list
abbrev pub HasEach : {A : Type 0} → ℕ → List (ℕ × A) → Type 0
HasEach {A} n pairs = (k : ℕ) → k < n → (i : ℕ) × (a : A) × (get_elem? pairs i ≡ some (k, a))

-- the number of each pass, with all that it has seen
abbrev pub marks : {B E : Type 0} → List (PassValue B E) → List (ℕ × List E)
marks passes = map (λ p. (p.number, p.seen)) passes

-- the maker has drawn n numbers, has given them all, and has these seats back
abbrev pub HasJoined : {S B E : Type 0} → Me (Option S) (View B E) → ℕ → List (ℕ × List E) → Type 0
HasJoined m n joined = m ≡ (maker_seat m.0.base n [] joined m.0.seen, [])

-- the state that comes out at the end: what each joined seat had seen begins its entries, those of a joined number are
-- those that its seat had seen, and no entry has a number that was not drawn
pub record Settled {S B E : Type 0} (base : S → B) (entries : S → List E) (caller : E → ℕ) (b : B) (n : ℕ) (joined : List (ℕ × List E)) (state : S) : Type 0 where
  pub same : base state ≡ b
  pub stand : (i k : ℕ) (seen : List E) → get_elem? joined i ≡ some (k, seen) → IsPrefix seen (entries state) × (own caller k (entries state) ≡ own caller k seen)
  pub none_beyond : (k : ℕ) → n ≤ k → own caller k (entries state) ≡ []
