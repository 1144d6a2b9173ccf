-- What stands for each of the numbers below n: bytes one after the other, sums, and bits.
use Rattle.std.proofs.Common.{◌≡◌, ℕ, zero, suc, ◌+◌, ◌*◌, ◌/◌, ◌%◌, ◌-◌, ◌<◌, ◌≤◌, ◌^◌, ⊎_elim, List, [], ◌∷◌, ◌++◌, Bool, true, false, cond, map, length, slice_get, Some, refl, sym, ap, subst, ◌∙◌, arith, eqb}
use Rattle.std.specs.List.{flat_map, range_with_len}
use Rattle.std.proofs.Math.Nat.{add-mul-div_right, pow-suc}
use Rattle.std.proofs.lemmas.Nat.{pow-add, pow_pos, div-mul-add}
use Rattle.std.proofs.lemmas.Bool.{cases_lt}
use Rattle.std.proofs.lemmas.List.{append-nil, length-append, map-id}
use Rattle.std.proofs.lemmas.List.FromFn.{map-range_with_len_more}
use Rattle.std.proofs.lemmas.Grind.{flat_map-append}
use Rattle.std.proofs.lemmas.Option.{same_Some}
use Rattle.md_schema.specs.Header.{is_set, sum_below}
use Rattle.md_tables.proofs.HeaderLemmas.{sum_below-more, sum_below-zero}
use Rattle.md_write.specs.TablesStream.{bytes_below}
use Rattle.md_write.proofs.StandsLemmas.{StandsIn, stands-at, stands-first, stands-in, stands-last}

-- sums of the same numbers
pub sum_below-same : (f g : ℕ → ℕ) (n : ℕ) → ((k : ℕ) → k < n → f k ≡ g k) → sum_below f n ≡ sum_below g n
sum_below-same f g zero each = sum_below-zero f ∙ sym (sum_below-zero g)
sum_below-same f g (suc n) each =
    let s : suc n ≡ n + 1 = omega arith in
    let front = sum_below-same f g n (λ k h. each k (omega arith)) in
    let more = sum_below-more f n in
    let other = sum_below-more g n in
    let last = each n (omega arith) in
    let e : sum_below f (n + 1) ≡ sum_below g (n + 1) = omega (arith, front, more, other, last) in
    ap (sum_below f) s ∙ e ∙ ap (sum_below g) (sym s)

pub sum_below-times : (c : ℕ) (f g : ℕ → ℕ) (n : ℕ) → ((k : ℕ) → f k ≡ c * g k) → sum_below f n ≡ c * sum_below g n
sum_below-times c f g zero each = sum_below-zero f ∙ (let e : 0 ≡ c * 0 = omega arith in e) ∙ ap (λ (m : ℕ). c * m) (sym (sum_below-zero g))
sum_below-times c f g (suc n) each =
    let s : suc n ≡ n + 1 = omega arith in
    let front = sum_below-times c f g n each in
    let more = sum_below-more f n in
    let last = each n in
    let split : c * (sum_below g n + g n) ≡ c * sum_below g n + c * g n = omega arith in
    let e : sum_below f (n + 1) ≡ c * (sum_below g n + g n) = omega (arith, front, more, last, split) in
    ap (sum_below f) s ∙ e ∙ ap (λ (m : ℕ). c * m) (sym (sum_below-more g n)) ∙ ap (λ (m : ℕ). c * sum_below g m) (sym s)

-- lists of the same items
pub range-same : {X : Type 0} (f g : ℕ → X) (n : ℕ) → ((k : ℕ) → k < n → f k ≡ g k) → map f (range_with_len 0 n) ≡ map g (range_with_len 0 n)
range-same f g zero each = refl
range-same f g (suc n) each =
    let s : suc n ≡ n + 1 = omega arith in
    let e : map f (range_with_len 0 (n + 1)) ≡ map g (range_with_len 0 (n + 1)) =
    map-range_with_len_more f 0 n n (omega arith)
    ∙ ap (λ xs. xs ++ f n ∷ []) (range-same f g n (λ k h. each k (omega arith)))
    ∙ ap (λ x. map g (range_with_len 0 n) ++ x ∷ []) (each n (omega arith))
    ∙ sym (map-range_with_len_more g 0 n n (omega arith)) in
    ap (λ (m : ℕ). map f (range_with_len 0 m)) s ∙ e ∙ ap (λ (m : ℕ). map g (range_with_len 0 m)) (sym s)

pub bytes_below-zero : (f : ℕ → List ℕ) → bytes_below f 0 ≡ []
unfolding bytes_below
bytes_below-zero f = refl

pub bytes_below-more : (f : ℕ → List ℕ) (n : ℕ) → bytes_below f (n + 1) ≡ bytes_below f n ++ f n
unfolding bytes_below
bytes_below-more f n =
    let range : range_with_len 0 (n + 1) ≡ range_with_len 0 n ++ n ∷ [] =
    sym (map-id (range_with_len 0 (n + 1))) ∙ map-range_with_len_more (λ (k : ℕ). k) 0 n n (omega arith)
    ∙ ap (λ ks. ks ++ n ∷ []) (map-id (range_with_len 0 n)) in
    ap (flat_map f) range ∙ flat_map-append f (range_with_len 0 n) (n ∷ []) ∙ ap (λ s. flat_map f (range_with_len 0 n) ++ s) (append-nil (f n))

pub length-bytes_below : (f : ℕ → List ℕ) (n : ℕ) → length (bytes_below f n) ≡ sum_below (λ k. length (f k)) n
length-bytes_below f zero = ap length (bytes_below-zero f) ∙ sym (sum_below-zero (λ k. length (f k)))
length-bytes_below f (suc n) =
    let s : suc n ≡ n + 1 = omega arith in
    let front = length-bytes_below f n in
    let both = length-append (bytes_below f n) (f n) in
    let more = sum_below-more (λ k. length (f k)) n in
    let bytes = ap length (bytes_below-more f n) in
    let e : length (bytes_below f (n + 1)) ≡ sum_below (λ k. length (f k)) (n + 1) = omega (arith, front, both, more, bytes) in
    ap (λ (m : ℕ). length (bytes_below f m)) s ∙ e ∙ ap (sum_below (λ k. length (f k))) (sym s)

-- the bytes of a number stand behind those of lesser ones
pub bytes_below-stands : (f : ℕ → List ℕ) (n k : ℕ) → k < n → StandsIn (bytes_below f n) (length (bytes_below f k)) (f k)
bytes_below-stands f zero k h = absurd (omega arith)
bytes_below-stands f (suc n) k h =
    let s : n + 1 ≡ suc n = omega arith in
    let whole : bytes_below f n ++ f n ≡ bytes_below f (suc n) = sym (bytes_below-more f n) ∙ ap (bytes_below f) s in
    subst (λ b. StandsIn b (length (bytes_below f k)) (f k)) whole
    (⊎_elim
    (λ (below : k < n).
    let front : 0 + length (bytes_below f k) ≡ length (bytes_below f k) = omega arith in
    stands-at front (stands-in (stands-first (bytes_below f n) (f n)) (bytes_below-stands f n k below)))
    (λ (last : n ≤ k). let e : n ≡ k = omega arith in subst (λ (m : ℕ). StandsIn (bytes_below f n ++ f n) (length (bytes_below f m)) (f m)) e (stands-last (bytes_below f n) (f n)))
    (cases_lt k n))

-- a bit for each number below n that passes
module _ (p : ℕ → Bool) where
  abbrev power : ℕ → ℕ
  power k = cond (p k) (2 ^ k) 0

  power-small : (k : ℕ) → power k ≤ 2 ^ k
  power-small k = elim (p k) as (λ b. cond b (2 ^ k) 0 ≤ 2 ^ k) [ true ↦ omega arith | false ↦ omega arith ]

  pub bits-small : (n : ℕ) → sum_below power n < 2 ^ n
  bits-small zero = let e = sum_below-zero power in omega (arith, e)
  bits-small (suc n) =
      let s : suc n ≡ n + 1 = omega arith in
      let front = bits-small n in
      let last = power-small n in
      let more = sum_below-more power n in
      let double = pow-suc 2 n in
      let e : sum_below power (suc n) ≡ sum_below power (n + 1) = ap (sum_below power) s in
      omega (arith, front, last, more, double, e)

  last-bit : (n rest : ℕ) (b : Bool) → rest < 2 ^ n → eqb ((rest + cond b (2 ^ n) 0) / 2 ^ n % 2) 1 ≡ b
  last-bit n rest true small =
      let e : (rest + 2 ^ n) / 2 ^ n ≡ 1 = ap (λ (m : ℕ). m / 2 ^ n) (let f : rest + 2 ^ n ≡ 1 * 2 ^ n + rest = omega arith in f) ∙ div-mul-add 1 (2 ^ n) rest small in
      ap (λ (m : ℕ). eqb (m % 2) 1) e
  last-bit n rest false small =
      let e : (rest + 0) / 2 ^ n ≡ 0 = ap (λ (m : ℕ). m / 2 ^ n) (let f : rest + 0 ≡ 0 * 2 ^ n + rest = omega arith in f) ∙ div-mul-add 0 (2 ^ n) rest small in
      ap (λ (m : ℕ). eqb (m % 2) 1) e

  lower-bit : (n k rest : ℕ) (b : Bool) → k < n → (rest + cond b (2 ^ n) 0) / 2 ^ k % 2 ≡ rest / 2 ^ k % 2
  lower-bit n k rest true below =
      let d = n - k - 1 in
      let whole : 2 ^ n ≡ 2 ^ d * 2 * 2 ^ k =
      ap (λ (m : ℕ). 2 ^ m) (let f : n ≡ suc d + k = omega arith in f) ∙ pow-add 2 (suc d) k ∙ ap (λ (m : ℕ). m * 2 ^ k) (pow-suc 2 d) in
      let some : 0 < 2 ^ k = pow_pos k in
      ap (λ (m : ℕ). (rest + m) / 2 ^ k % 2) whole ∙ ap (λ (m : ℕ). m % 2) (add-mul-div_right rest (2 ^ d * 2) some)
      ∙ (let f : (rest / 2 ^ k + 2 ^ d * 2) % 2 ≡ rest / 2 ^ k % 2 = omega arith in f)
  lower-bit n k rest false below = ap (λ (m : ℕ). m / 2 ^ k % 2) (let f : rest + 0 ≡ rest = omega arith in f)

  pub bits-set : (n k : ℕ) → k < n → is_set (sum_below power n) k ≡ p k
  bits-set zero k h = absurd (omega arith)
  bits-set (suc n) k h =
      let s : suc n ≡ n + 1 = omega arith in
      ap (λ (m : ℕ). is_set (sum_below power m) k) s ∙ ap (λ (m : ℕ). is_set m k) (sum_below-more power n)
      ∙ ⊎_elim
      (λ (below : k < n). ap (λ (m : ℕ). eqb m 1) (lower-bit n k (sum_below power n) (p n) below) ∙ bits-set n k below)
      (λ (last : n ≤ k). let e : n ≡ k = omega arith in subst (λ (m : ℕ). is_set (sum_below power n + power n) m ≡ p m) e (last-bit n (sum_below power n) (p n) (bits-small n)))
      (cases_lt k n)

-- rows of one width, one after the other
module _ {X : Type 0} (f : X → List ℕ) (w : ℕ) where
  pub length-rows : (xs : List X) → ((i : ℕ) (x : X) → slice_get xs i ≡ Some x → length (f x) ≡ w) → length (flat_map f xs) ≡ length xs * w
  length-rows [] each = omega arith
  length-rows (x ∷ xs) each =
      let first = each 0 x refl in
      let later = length-rows xs (λ i y at. each (suc i) y at) in
      let both = length-append (f x) (flat_map f xs) in
      let e : suc (length xs) * w ≡ w + length xs * w = omega arith in
      omega (arith, first, later, both, e)

  pub row-stands : (xs : List X) (i : ℕ) (x : X) → ((i : ℕ) (x : X) → slice_get xs i ≡ Some x → length (f x) ≡ w) → slice_get xs i ≡ Some x → StandsIn (flat_map f xs) (i * w) (f x)
  row-stands [] i x each at = absurd (cc)
  row-stands (y ∷ xs) zero x each at =
      let none : 0 ≡ zero * w = omega arith in
      stands-at none (subst (λ z. StandsIn (flat_map f (y ∷ xs)) 0 (f z)) (same_Some y x at) (stands-first (f y) (flat_map f xs)))
  row-stands (y ∷ xs) (suc i) x each at =
      let first = each 0 y refl in
      let e : length (f y) + i * w ≡ suc i * w = omega (arith, first) in
      stands-at e (stands-in (stands-last (f y) (flat_map f xs)) (row-stands xs i x (λ j z h. each (suc j) z h) at))
