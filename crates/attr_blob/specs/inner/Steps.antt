-- One reading after another, where each finds a value, or stops.
use Rattle.std.specs.Prelude.{◌≡◌, ℕ, List, Option, Some, None, Result, Ok, Err, option_map}
use Rattle.std.specs.Borrow.{Bor}
use Rattle.attr_blob.specs.declared.stop.Stop.{Stop}
use Rattle.attr_blob.specs.declared.stop.Stop.TheVariants.{Fails}

-- what is found, with the bytes after it, or why nothing is
abbrev pub Found : Type 0 → Type 0
Found A = Result (A × List ℕ) Stop

-- after what stands at the front of the bytes
abbrev pub behind : {A B : Type 0} → Option (A × List ℕ) → (A → List ℕ → Found B) → Found B
behind None next = Err Fails
behind (Some x) next = next x.0 x.1

-- after what was found
abbrev pub onward : {A B : Type 0} → Found A → (A → List ℕ → Found B) → Found B
onward (Err stop) next = Err stop
onward (Ok x) next = next x.0 x.1

-- the same with the value changed
abbrev pub changed : {A B : Type 0} → (A → B) → Option (A × List ℕ) → Option (B × List ℕ)
changed {A} {B} f found = option_map {T = A × List ℕ} {U = B × List ℕ} (λ x. (f x.0, x.1)) found

-- the readers' answers, with the bytes that are left
abbrev pub StandsAtFront : {A : Type 0} → Option (A × Bor (List ℕ)) → Option (A × List ℕ) → Type 0
StandsAtFront None expected = expected ≡ None
StandsAtFront (Some x) expected = expected ≡ Some (x.0, x.1.now)

abbrev pub FoundAt : {A : Type 0} → Result (A × Bor (List ℕ)) Stop → Found A → Type 0
FoundAt (Err stop) expected = expected ≡ Err stop
FoundAt (Ok x) expected = expected ≡ Ok (x.0, x.1.now)
