-- The views that the seats of the lock have, and what is counted in them.
use Rattle.std.specs.Prelude.{◌≡◌, ℕ, ◌+◌, Bool, true, false, List, [], ◌∷◌, map, length, filter, ◌==◌, Option, None}
use mathlib.Core.Option.{some}
use lib.ListN.{get_elem?}
use Rattle.turn_lock.specs.declared.view.View.{View}

-- f of each, added up
abbrev pub total : {A : Type 0} → (A → ℕ) → List A → ℕ
total f [] = 0
total f (x ∷ xs) = f x + total f xs

abbrev pub one_if : Bool → ℕ
one_if true = 1
one_if false = 0

-- how often k stands in the list
abbrev pub times : ℕ → List ℕ → ℕ
times k xs = total (λ x. one_if (x == k)) xs

-- the entries of one caller, in order
abbrev pub own : {E : Type 0} → (E → ℕ) → ℕ → List E → List E
own caller k es = filter (λ e. caller e == k) es

-- P holds of each view
abbrev pub Each : {V : Type 0} → List V → (V → Type 0) → Type 0
Each {V} views P = (j : ℕ) (v : V) → get_elem? views j ≡ some v → P v

module _ {B E : Type 0} where
  -- the seat that stays in the lock
  abbrev pub maker_seat : Option B → ℕ → List ℕ → List (ℕ × List E) → List E → View B E
  maker_seat b next to_give joined seen = record { base = b; is_maker = true; next = next; to_give = to_give; joined = joined; numbers = []; tickets = []; has_turn = false; seen = seen }

  -- the seat of a caller
  abbrev pub caller_seat : Option B → List ℕ → List ℕ → Bool → List E → View B E
  caller_seat b numbers tickets has_turn seen = record { base = b; is_maker = false; next = 0; to_give = []; joined = []; numbers = numbers; tickets = tickets; has_turn = has_turn; seen = seen }

  abbrev pub idle : Option B → ℕ → List E → View B E
  idle b k seen = caller_seat b (k ∷ []) [] false seen

  abbrev pub waiting : Option B → ℕ → ℕ → List E → View B E
  waiting b k ticket seen = caller_seat b (k ∷ []) (ticket ∷ []) false seen

  abbrev pub turning : Option B → ℕ → ℕ → List E → View B E
  turning b k ticket seen = caller_seat b (k ∷ []) (ticket ∷ []) true seen

  -- the view that a join leaves
  abbrev pub spent : View B E
  spent = caller_seat None [] [] false []

  -- how often the number k stands in the view: to be given, of a joined seat, or the seat's own
  abbrev pub named : ℕ → View B E → ℕ
  named k v = times k v.to_give + times k (map (λ (p : ℕ × List E). p.0) v.joined) + times k v.numbers

  -- how many numbers stand in the view
  abbrev pub names : View B E → ℕ
  names v = length v.to_give + length v.joined + length v.numbers

  abbrev pub making : View B E → ℕ
  making v = one_if v.is_maker
