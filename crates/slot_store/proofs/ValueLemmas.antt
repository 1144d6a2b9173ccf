-- Values by their numbers after one is added, and after one is exchanged.
use Rattle.std.proofs.Common.{◌≡◌, ◌≢◌, refl, ◌∙◌, ap, ℕ, zero, suc, ◌+◌, ◌<◌, ◌≤◌, arith}
use Rattle.std.proofs.Common.{false, Some, is_none, List, [], ◌∷◌, ◌++◌, length, set, add-one, length-append}
use Rattle.std.specs.Prelude.{slice_get}
use Rattle.slot_store.specs.inner.Numbers.{counted_value}

module _ {V : Type 0} where
  get_before : (xs : List V) (v : V) (i : ℕ) → i < length xs → slice_get (xs ++ v ∷ []) i ≡ slice_get xs i
  get_before [] v i less = absurd (omega arith)
  get_before (x ∷ xs) v zero less = refl
  get_before (x ∷ xs) v (suc i) less = get_before xs v i (omega arith)

  get_last : (xs : List V) (v : V) → slice_get (xs ++ v ∷ []) (length xs) ≡ Some v
  get_last [] v = refl
  get_last (x ∷ xs) v = get_last xs v

  get_set : (xs : List V) (v : V) (i : ℕ) → i < length xs → slice_get (set xs i v) i ≡ Some v
  get_set [] v i less = absurd (omega arith)
  get_set (x ∷ xs) v zero less = refl
  get_set (x ∷ xs) v (suc i) less = get_set xs v i (omega arith)

  get_unset : (xs : List V) (v : V) (i j : ℕ) → j ≢ i → slice_get (set xs i v) j ≡ slice_get xs j
  get_unset [] v i j other = refl
  get_unset (x ∷ xs) v zero zero other = absurd (other refl)
  get_unset (x ∷ xs) v zero (suc j) other = refl
  get_unset (x ∷ xs) v (suc i) zero other = refl
  get_unset (x ∷ xs) v (suc i) (suc j) other = get_unset xs v i j (λ same. other (ap suc same))

  get_some : (xs : List V) (i : ℕ) → i < length xs → is_none (slice_get xs i) ≡ false
  get_some [] i less = absurd (omega arith)
  get_some (x ∷ xs) zero less = refl
  get_some (x ∷ xs) (suc i) less = get_some xs i (omega arith)

  pub length_of_more : (old new : List V) (v : V) → new ≡ old ++ v ∷ [] → length new ≡ length old + 1
  length_of_more old new v is = ap length is ∙ length-append old (v ∷ [])

  -- values with one more: the numbers up to the last keep their values, and the next has the new one
  pub value_before : (xs : List V) (v : V) (n : ℕ) → n ≤ length xs → counted_value (xs ++ v ∷ []) n ≡ counted_value xs n
  unfolding counted_value
  value_before xs v zero less = refl
  value_before xs v (suc n) less = get_before xs v n (omega arith)

  pub value_last : (xs : List V) (v : V) → counted_value (xs ++ v ∷ []) (length xs + 1) ≡ Some v
  unfolding counted_value
  value_last xs v = ap (counted_value (xs ++ v ∷ [])) (add-one (length xs)) ∙ get_last xs v

  -- values with one exchanged: its number has the new one, and each other number keeps its value
  pub value_set : (xs : List V) (v : V) (i : ℕ) → i < length xs → counted_value (set xs i v) (suc i) ≡ Some v
  unfolding counted_value
  value_set xs v i less = get_set xs v i less

  pub value_unset : (xs : List V) (v : V) (i n : ℕ) → n ≢ suc i → counted_value (set xs i v) n ≡ counted_value xs n
  unfolding counted_value
  value_unset xs v i zero other = refl
  value_unset xs v i (suc n) other = get_unset xs v i n (λ same. other (ap suc same))

  -- each number from 1 up to the last has a value
  pub value_some : (xs : List V) (n : ℕ) → 0 < n → n ≤ length xs → is_none (counted_value xs n) ≡ false
  unfolding counted_value
  value_some xs zero from_one less = absurd (omega arith)
  value_some xs (suc n) from_one less = get_some xs n (omega arith)
