-- Places and numbers of instructions.
use Rattle.std.proofs.Common.{◌≡◌, ◌==◌, ◌+◌, ◌<◌, ◌≤◌, ◌++◌, ℕ, zero, suc, List, [], ◌∷◌, length, map, take, drop, get_or, set, false, Option, Some, None, refl, sym, ap, ◌∙◌, arith, eq-eqb, add-one, append_assoc}
use Rattle.std.specs.Prelude.{option_map}
use Rattle.std.specs.List.{slice_get, sum_by, range_with_len}
use Rattle.std.proofs.Math.ListN.{length-set}
use Rattle.std.proofs.lemmas.List.{append-nil, take_more_set, take-set, drop-set-lt, take_more}
use Rattle.std.proofs.lemmas.List.Sums.{sum_by_push}
use Rattle.std.proofs.lemmas.List.FromFn.{map-range_with_len_more}
use Rattle.std.proofs.lemmas.Bool.Decides.{nat_tests}
use Rattle.il_code.specs.declared.instr.Instr.{Instr}
use Rattle.il_code.specs.Code.{at, size_of}
use Rattle.il_code.specs.Numbering.{places, number_in, each}
use Rattle.il_code.specs.CodePlaces.{Rising}

-- the number of a place

pub number_in-is : (ps : List ℕ) (p i : ℕ) → Rising ps → i < length ps → get_or ps i 0 ≡ p → number_in ps p ≡ Some i
unfolding number_in
number_in-is [] p i rising h e = absurd (omega (arith, h))
number_in-is (q ∷ qs) p zero rising h e = rw (eq-eqb q p e) refl
number_in-is (q ∷ qs) p (suc i) rising h e =
    let less = rising 0 (suc i) (omega arith) h in
    let other : (q == p) ≡ false = apart q p (omega (arith, less, e)) in
    rw other (ap (option_map (λ i. i + 1)) (number_in-is qs p i (λ a b l m. rising (suc a) (suc b) (omega arith) (omega arith)) (omega arith) e) ∙ ap Some (add-one i))
  where
    apart : (q p : ℕ) → q < p → (q == p) ≡ false
    apart q p h = grind (arith, nat_tests)

pub number_in-none : (ps : List ℕ) (p : ℕ) → ((k : ℕ) → k < length ps → get_or ps k 0 ≡ p → ⊥) → number_in ps p ≡ None
unfolding number_in
number_in-none [] p other = refl
number_in-none (q ∷ qs) p other =
    let first : (q == p) ≡ false = apart q p (other 0 (omega arith)) in
    rw first (ap (option_map (λ i. i + 1)) (number_in-none qs p (λ k h e. other (suc k) (omega arith) e)))
  where
    apart : (q p : ℕ) → (q ≡ p → ⊥) → (q == p) ≡ false
    apart q p h = grind (arith, nat_tests)

-- the places of the instructions

pub at-none : (code : List Instr) → at code 0 ≡ 0
unfolding at
at-none code = refl

pub at-more : (code : List Instr) (i : ℕ) (x : Instr) → i < length code → x ≡ get_or code i x → at code (i + 1) ≡ at code i + size_of x
unfolding at
at-more code i x h e = ap (sum_by size_of) (take_more code i x h) ∙ sum_by_push size_of (take i code) (get_or code i x) ∙ ap (λ y. sum_by size_of (take i code) + size_of y) (sym e)

pub places-more : (code : List Instr) (all : List ℕ) (i p : ℕ) → all ≡ map (at code) (range_with_len 0 (i + 1)) → p ≡ at code (i + 1) → all ++ p ∷ [] ≡ map (at code) (range_with_len 0 (i + 1 + 1))
places-more code all i p e h = ap (λ a. a ++ p ∷ []) e ∙ ap (λ q. map (at code) (range_with_len 0 (i + 1)) ++ q ∷ []) h ∙ sym (map-range_with_len_more (at code) 0 (i + 1) (i + 1) (omega arith))

pub places-is : (code : List Instr) (all : List ℕ) (i : ℕ) → i ≡ length code → all ≡ map (at code) (range_with_len 0 (i + 1)) → all ≡ places code
unfolding places
places-is code all i h e = e ∙ ap (λ n. map (at code) (range_with_len 0 (n + 1))) h

-- the items up to i are what f makes of those of `before`, and the others are as they were
pub record Replaced {A : Type 0} (f : A → Option A) (before now : List A) (i n : ℕ) : Type 0 where
  pub len : length now ≡ n
  pub upto : i ≤ n
  pub so_far : option_map (λ rest. take i now ++ rest) (each f (drop i now)) ≡ each f before

unmapped : {A : Type 0} (o : Option (List A)) → option_map (λ rest. [] ++ rest) o ≡ o
unmapped None = refl
unmapped (Some xs) = refl

pub replaced-start : {A : Type 0} (f : A → Option A) (before : List A) (n : ℕ) → length before ≡ n → Replaced f before before 0 n
replaced-start f before n e = record { len = e; upto = omega arith; so_far = unmapped (each f before) }

at_front : {A : Type 0} (xs : List A) (i : ℕ) (x : A) → slice_get xs i ≡ Some x → drop i xs ≡ x ∷ drop (i + 1) xs
at_front [] i x h = cc
at_front (y ∷ xs) zero x h = ap (λ z. z ∷ xs) (same y x h)
  where
    same : {A : Type 0} (y x : A) → Some y ≡ Some x → y ≡ x
    same y x h = cc
at_front (y ∷ xs) (suc i) x h = let e : suc i + 1 ≡ suc (i + 1) = omega arith in rw e (at_front xs i x h)

each-some : {A : Type 0} (f : A → Option A) (x y : A) (xs : List A) → f x ≡ Some y → each f (x ∷ xs) ≡ option_map (λ ys. y ∷ ys) (each f xs)
unfolding each
each-some f x y xs h = rw h refl

each-none : {A : Type 0} (f : A → Option A) (x : A) (xs : List A) → f x ≡ None → each f (x ∷ xs) ≡ None
unfolding each
each-none f x xs h = rw h refl

moved : {A : Type 0} (front : List A) (y : A) (o : Option (List A)) → option_map (λ rest. front ++ rest) (option_map (λ ys. y ∷ ys) o) ≡ option_map (λ rest. (front ++ y ∷ []) ++ rest) o
moved front y None = refl
moved front y (Some ys) = ap Some (sym (append_assoc front (y ∷ []) ys))

-- the item at i is taken out, and what f makes of it put there
pub replaced-more : {A : Type 0} (f : A → Option A) (before now then later : List A) (i n : ℕ) (x e y : A) → i < n → Replaced f before now i n → slice_get now i ≡ Some x → f x ≡ Some y → then ≡ set now i e → later ≡ set then i y → Replaced f before later (i + 1) n
replaced-more f before now then later i n x e y h r got made out put =
    let len : length then ≡ n = ap length out ∙ length-set now i e ∙ r.len in
    let inside : i < length then = omega arith in
    let front : take (i + 1) later ≡ take i now ++ y ∷ [] = ap (take (i + 1)) put ∙ take_more_set then i y inside ∙ ap (λ z. take i z ++ y ∷ []) out ∙ ap (λ z. z ++ y ∷ []) (take-set now i e) in
    let back : drop (i + 1) later ≡ drop (i + 1) now = ap (drop (i + 1)) put ∙ drop-set-lt (i + 1) then i y (omega arith) ∙ ap (drop (i + 1)) out ∙ drop-set-lt (i + 1) now i e (omega arith) in
    record {
      len = ap length put ∙ length-set then i y ∙ len;
      upto = omega arith;
      so_far =
          ap (λ z. option_map (λ rest. z ++ rest) (each f (drop (i + 1) later))) front
          ∙ ap (λ z. option_map (λ rest. (take i now ++ y ∷ []) ++ rest) (each f z)) back
          ∙ sym (moved (take i now) y (each f (drop (i + 1) now)))
          ∙ ap (option_map (λ rest. take i now ++ rest)) (sym (each-some f x y (drop (i + 1) now) made))
          ∙ ap (λ z. option_map (λ rest. take i now ++ rest) (each f z)) (sym (at_front now i x got))
          ∙ r.so_far;
    }

pub each-nil : {A : Type 0} (f : A → Option A) → each f [] ≡ Some []
unfolding each
each-nil f = refl

drop_all : {A : Type 0} (xs : List A) (i : ℕ) → length xs ≤ i → drop i xs ≡ []
drop_all [] zero h = refl
drop_all [] (suc i) h = refl
drop_all (x ∷ xs) zero h = absurd (omega (arith, h))
drop_all (x ∷ xs) (suc i) h = drop_all xs i (omega (arith, h))

take_all : {A : Type 0} (xs : List A) (i : ℕ) → length xs ≤ i → take i xs ≡ xs
take_all [] zero h = refl
take_all [] (suc i) h = refl
take_all (x ∷ xs) zero h = absurd (omega (arith, h))
take_all (x ∷ xs) (suc i) h = ap (λ z. x ∷ z) (take_all xs i (omega (arith, h)))

-- an item of which f makes nothing
pub replaced-stop : {A : Type 0} (f : A → Option A) (before now : List A) (i n : ℕ) (x : A) → i < n → Replaced f before now i n → slice_get now i ≡ Some x → f x ≡ None → each f before ≡ None
replaced-stop f before now i n x h r got made =
    sym r.so_far ∙ ap (λ xs. option_map (λ rest. take i now ++ rest) (each f xs)) (at_front now i x got) ∙ ap (option_map (λ rest. take i now ++ rest)) (each-none f x (drop (i + 1) now) made)

-- all items are replaced
pub replaced-over : {A : Type 0} (f : A → Option A) (before now : List A) (i n : ℕ) → n ≤ i → Replaced f before now i n → each f before ≡ Some now
replaced-over f before now i n h r =
    sym r.so_far
    ∙ ap (λ z. option_map (λ rest. take i now ++ rest) (each f z)) (drop_all now i (omega (arith, r.len)))
    ∙ ap (option_map (λ rest. take i now ++ rest)) (each-nil f)
    ∙ ap Some (append-nil (take i now) ∙ take_all now i (omega (arith, r.len)))
