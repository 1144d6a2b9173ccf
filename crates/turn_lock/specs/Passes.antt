-- What a lock, a pass and a held state are to their callers, and what their contracts say of them.
use Rattle.std.specs.Prelude.{◌≡◌, ℕ, ◌<◌, ◌≤◌, List, [], map, length, slice_get, slice_index_or, All, Any, Option, Some}
use Rattle.std.specs.List.{range_with_len}
use Rattle.atomic_table.specs.Seated.{TableId}

-- a lock: which one it is, how many callers it has, and the base of its state
pub record LockValue (B : Type 0) : Type 0 where
  pub id : TableId
  pub callers : ℕ
  pub base : B

-- a pass: its lock, its caller's number, the base of the lock's state, and the entries that it has seen
pub record PassValue (B E : Type 0) : Type 0 where
  pub lock : TableId
  pub number : ℕ
  pub base : Option B
  pub seen : List E

-- a held state: the same of the pass that entered, with the entries as it found them, and the state as it is now
pub record HeldValue (S B E : Type 0) : Type 0 where
  pub lock : TableId
  pub number : ℕ
  pub base : Option B
  pub seen : List E
  pub state : S

module _ {B E : Type 0} where
  abbrev pub IsPassOf : LockValue B → PassValue B E → Type 0
  IsPassOf l p = (p.lock ≡ l.id) × (p.base ≡ Some l.base)

  -- a pass that has seen nothing
  abbrev pub new_pass : TableId → Option B → ℕ → PassValue B E
  new_pass id base number = record { lock = id; number = number; base = base; seen = [] }

  -- a new pass for each number from 0 on, in order
  abbrev pub fresh_passes : LockValue B → List (PassValue B E)
  fresh_passes l = map (new_pass l.id (Some l.base)) (range_with_len 0 l.callers)

  -- all are passes of the lock, and each caller's pass is among them
  abbrev pub AreAllOf : LockValue B → List (PassValue B E) → Type 0
  AreAllOf l passes = All (IsPassOf l) passes × ((k : ℕ) → k < l.callers → Any (λ p. p.number ≡ k) passes)

  -- these passes went away, and those came back: each is of the lock, and has the number of the pass at its place
  pub record AreBack (l : LockValue B) (away back : List (PassValue B E)) : Type 0 where
    pub as_many : length back ≡ length away
    pub of_lock : All (IsPassOf l) back
    pub same : (i : ℕ) (d : PassValue B E) → i < length away → (slice_index_or back i d).number ≡ (slice_index_or away i d).number

module _ {S B E : Type 0} where
  abbrev pub IsHeldOf : LockValue B → HeldValue S B E → Type 0
  IsHeldOf l h = (h.lock ≡ l.id) × (h.base ≡ Some l.base)

-- each entry from the place n on is of this caller
abbrev pub MadeBy : {E : Type 0} → (E → ℕ) → ℕ → ℕ → List E → Type 0
MadeBy {E} caller k n entries = (i : ℕ) (e : E) → n ≤ i → slice_get entries i ≡ Some e → caller e ≡ k
