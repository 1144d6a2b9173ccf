-- The stable sort by a number: there is one list in rising order that has the items of each number in their order.
use Rattle.std.proofs.Common.{◌≡◌, ◌∙◌, sym, ap, refl, ℕ, suc, ◌<◌, ◌≤◌, Bool, true, false, cond, not, eqb, leb, List, [], ◌∷◌, map, length, get_or, Option, Some, None, arith, eq-eqb, eqb-true, leb-true, leb-false, filter}
use Rattle.std.specs.Prelude.{◌&&◌}
use Rattle.std.specs.List.Sorted.{IsNonDecreasingBy, IsStableByKey}
use Rattle.std.specs.Ordering.{is_lt, nat_cmp}
use Rattle.std.proofs.lemmas.Bool.Decides.{nat_tests}
use Rattle.write_plan.specs.Written.{insert_by, sorted_by}

-- no item of these has a lesser number
abbrev pub Above : {X : Type 0} → (X → ℕ) → ℕ → List X → Type 0
Above n m [] = Unit {0}
Above n m (x ∷ xs) = (m ≤ n x) × Above n m xs

abbrev pub Rises : {X : Type 0} → (X → ℕ) → List X → Type 0
Rises n [] = Unit {0}
Rises n (x ∷ xs) = Above n (n x) xs × Rises n xs

above_weaker : {X : Type 0} (n : X → ℕ) (l m : ℕ) → l ≤ m → (xs : List X) → Above n m xs → Above n l xs
above_weaker n l m le [] a = tt
above_weaker n l m le (x ∷ xs) a = (omega (arith, le, a.0), above_weaker n l m le xs a.1)

above_at : {X : Type 0} (n : X → ℕ) (m : ℕ) (xs : List X) → ((j : ℕ) (d : X) → j < length xs → m ≤ n (get_or xs j d)) → Above n m xs
above_at n m [] h = tt
above_at n m (x ∷ xs) h = (h 0 x (omega arith), above_at n m xs (λ j d l. h (suc j) d (omega (arith, l))))

pub rises : {X : Type 0} (n : X → ℕ) (xs : List X) → IsNonDecreasingBy n xs → Rises n xs
rises n [] h = tt
rises n (x ∷ xs) h =
    (above_at n (n x) xs (λ j d l. h 0 (suc j) d (omega arith) (omega (arith, l))), rises n xs (λ i j d le l. h (suc i) (suc j) d (omega (arith, le)) (omega (arith, l))))

above_insert : {X : Type 0} (n : X → ℕ) (m : ℕ) (x : X) → m ≤ n x → (ys : List X) → Above n m ys → Above n m (insert_by n x ys)
above_insert n m x le [] a = (le, tt)
above_insert n m x le (y ∷ ys) a =
    elim (leb (n x) (n y)) as (λ b. Above n m (cond b (x ∷ (y ∷ ys)) (y ∷ insert_by n x ys))) [
      | true ↦ (le, a)
      | false ↦ (a.0, above_insert n m x le ys a.1)
    ]

rises_insert : {X : Type 0} (n : X → ℕ) (x : X) (ys : List X) → Rises n ys → Rises n (insert_by n x ys)
rises_insert n x [] r = (tt, tt)
rises_insert {X = X} n x (y ∷ ys) r = by (rises_insert n x ys r.1) (leb (n x) (n y)) refl
  where
    by : Rises n (insert_by n x ys) → (b : Bool) → leb (n x) (n y) ≡ b → Rises n (cond b (x ∷ (y ∷ ys)) (y ∷ insert_by n x ys))
    by rest true e = let le = leb-true (n x) (n y) e in ((le, above_weaker n (n x) (n y) le ys r.0), r)
    by rest false e = let le = leb-false (n x) (n y) e in (above_insert n (n y) x (omega (arith, le)) ys r.0, rest)

pub rises_sorted : {X : Type 0} (n : X → ℕ) (xs : List X) → Rises n (sorted_by n xs)
rises_sorted n [] = tt
rises_sorted n (x ∷ xs) = rises_insert n x (sorted_by n xs) (rises_sorted n xs)

-- the items of one number

turned : {X : Type 0} (a b : Bool) (x y : X) (zs : List X) → (a ≡ true → b ≡ true → ⊥)
    → cond b (y ∷ cond a (x ∷ zs) zs) (cond a (x ∷ zs) zs) ≡ cond a (x ∷ cond b (y ∷ zs) zs) (cond b (y ∷ zs) zs)
turned true true x y zs apart = absurd (apart refl refl)
turned true false x y zs apart = refl
turned false true x y zs apart = refl
turned false false x y zs apart = refl

filter_insert : {X : Type 0} (n : X → ℕ) (k : ℕ) (x : X) (ys : List X) → filter (λ z. eqb (n z) k) (insert_by n x ys) ≡ filter (λ z. eqb (n z) k) (x ∷ ys)
filter_insert n k x [] = refl
filter_insert {X = X} n k x (y ∷ ys) = by (filter_insert n k x ys) (leb (n x) (n y)) refl
  where
    by : filter (λ z. eqb (n z) k) (insert_by n x ys) ≡ filter (λ z. eqb (n z) k) (x ∷ ys) → (b : Bool) → leb (n x) (n y) ≡ b
        → filter (λ z. eqb (n z) k) (cond b (x ∷ (y ∷ ys)) (y ∷ insert_by n x ys)) ≡ filter (λ z. eqb (n z) k) (x ∷ (y ∷ ys))
    by rest true e = refl
    by rest false e =
        let below = leb-false (n x) (n y) e in
        ap (λ zs. cond (eqb (n y) k) (y ∷ zs) zs) rest
        ∙ turned (eqb (n x) k) (eqb (n y) k) x y (filter (λ z. eqb (n z) k) ys) (λ p q. omega (arith, below, eqb-true (n x) k p, eqb-true (n y) k q))

pub filter_sorted : {X : Type 0} (n : X → ℕ) (k : ℕ) (xs : List X) → filter (λ z. eqb (n z) k) (sorted_by n xs) ≡ filter (λ z. eqb (n z) k) xs
filter_sorted n k [] = refl
filter_sorted n k (x ∷ xs) =
    filter_insert n k x (sorted_by n xs) ∙ ap (λ zs. cond (eqb (n x) k) (x ∷ zs) zs) (filter_sorted n k xs)

-- there is one such list

first_of : {X : Type 0} → List X → Option X
first_of [] = None
first_of (x ∷ xs) = Some x

behind : {X : Type 0} → List X → List X
behind [] = []
behind (x ∷ xs) = xs

some_first : {X : Type 0} (x y : X) → Some x ≡ Some y → x ≡ y
some_first x y e = cc

not_empty : {X : Type 0} (x : X) (xs : List X) → [] ≡ x ∷ xs → ⊥
not_empty {X = X} x xs e = absurd (cc)

found_above : {X : Type 0} (n : X → ℕ) (m k : ℕ) (x : X) (rest zs : List X) → Above n m zs → filter (λ z. eqb (n z) k) zs ≡ x ∷ rest → m ≤ k
found_above n m k x rest [] a e = absurd (not_empty x rest e)
found_above {X = X} n m k x rest (z ∷ zs) a e = by (found_above n m k x rest zs a.1) (eqb (n z) k) refl e
  where
    by : (filter (λ z. eqb (n z) k) zs ≡ x ∷ rest → m ≤ k) → (b : Bool) → eqb (n z) k ≡ b → cond b (z ∷ filter (λ z. eqb (n z) k) zs) (filter (λ z. eqb (n z) k) zs) ≡ x ∷ rest → m ≤ k
    by more true t h = omega (arith, a.0, eqb-true (n z) k t)
    by more false t h = more h

tails : {X : Type 0} (b : Bool) (x y : X) (xs ys : List X) → cond b (x ∷ xs) xs ≡ cond b (y ∷ ys) ys → xs ≡ ys
unfolding behind
tails true x y xs ys e = ap behind e
tails false x y xs ys e = e

heads : {X : Type 0} (b : Bool) (x y : X) (xs ys : List X) → b ≡ true → cond b (x ∷ xs) xs ≡ cond b (y ∷ ys) ys → x ≡ y
unfolding first_of
heads true x y xs ys t e = some_first x y (ap first_of e)
heads false x y xs ys t e = absurd (cc)

pub one_sorted : {X : Type 0} (n : X → ℕ) (xs ys : List X) → Rises n xs → Rises n ys → ((k : ℕ) → filter (λ z. eqb (n z) k) xs ≡ filter (λ z. eqb (n z) k) ys) → xs ≡ ys
one_sorted n [] [] r s h = refl
one_sorted n [] (y ∷ ys) r s h = absurd (not_empty y (filter (λ z. eqb (n z) (n y)) ys) (h (n y) ∙ ap (λ b. cond b (y ∷ filter (λ z. eqb (n z) (n y)) ys) (filter (λ z. eqb (n z) (n y)) ys)) (eq-eqb (n y) (n y) refl)))
one_sorted n (x ∷ xs) [] r s h = absurd (not_empty x (filter (λ z. eqb (n z) (n x)) xs) (sym (h (n x)) ∙ ap (λ b. cond b (x ∷ filter (λ z. eqb (n z) (n x)) xs) (filter (λ z. eqb (n z) (n x)) xs)) (eq-eqb (n x) (n x) refl)))
one_sorted {X = X} n (x ∷ xs) (y ∷ ys) r s h =
    let at : ℕ → List X → List X = λ k zs. filter (λ z. eqb (n z) k) zs in
    let here : (z : X) (zs : List X) → at (n z) (z ∷ zs) ≡ z ∷ at (n z) zs = λ z zs. ap (λ b. cond b (z ∷ at (n z) zs) (at (n z) zs)) (eq-eqb (n z) (n z) refl) in
    let low : n y ≤ n x = found_above n (n y) (n x) x (at (n x) xs) (y ∷ ys) (omega arith, s.0) (sym (h (n x)) ∙ here x xs) in
    let high : n x ≤ n y = found_above n (n x) (n y) y (at (n y) ys) (x ∷ xs) (omega arith, r.0) (h (n y) ∙ here y ys) in
    let same : n y ≡ n x = omega (arith, low, high) in
    let both : (k : ℕ) → cond (eqb (n x) k) (x ∷ at k xs) (at k xs) ≡ cond (eqb (n x) k) (y ∷ at k ys) (at k ys) =
    λ k. h k ∙ ap (λ m. cond (eqb m k) (y ∷ at k ys) (at k ys)) same in
    let first : x ≡ y = heads (eqb (n x) (n x)) x y (at (n x) xs) (at (n x) ys) (eq-eqb (n x) (n x) refl) (both (n x)) in
    let rest : xs ≡ ys = one_sorted n xs ys r.1 s.1 (λ k. tails (eqb (n x) k) x y (at k xs) (at k ys) (both k)) in
    ap (λ z. z ∷ xs) first ∙ ap (λ zs. y ∷ zs) rest

-- what std's sort promises

same_filter : {X : Type 0} (p q : X → Bool) → ((x : X) → p x ≡ q x) → (xs : List X) → filter p xs ≡ filter q xs
same_filter p q same [] = refl
same_filter p q same (x ∷ xs) =
    ap (λ b. cond b (x ∷ filter p xs) (filter p xs)) (same x) ∙ ap (λ zs. cond (q x) (x ∷ zs) zs) (same_filter p q same xs)

tied : (a b : ℕ) → (not (is_lt (nat_cmp a b)) && not (is_lt (nat_cmp b a))) ≡ eqb b a
tied a b = grind (arith, nat_tests)

pub sort_is : {X : Type 0} (n : X → ℕ) (of : ℕ → X) → ((k : ℕ) → n (of k) ≡ k) → (old new : List X) → IsNonDecreasingBy n new → IsStableByKey n nat_cmp old new → new ≡ sorted_by n old
sort_is {X = X} n of back old new rising stable =
    one_sorted n new (sorted_by n old) (rises n new rising) (rises_sorted n old) (λ k. kept k ∙ sym (filter_sorted n k old))
  where
    kept : (k : ℕ) → filter (λ z. eqb (n z) k) new ≡ filter (λ z. eqb (n z) k) old
    kept k =
        let p : X → Bool = λ y. not (is_lt (nat_cmp (n (of k)) (n y))) && not (is_lt (nat_cmp (n y) (n (of k)))) in
        let q : X → Bool = λ y. eqb (n y) k in
        let same : (y : X) → p y ≡ q y = λ y. tied (n (of k)) (n y) ∙ ap (eqb (n y)) (back k) in
        sym (same_filter p q same new) ∙ stable (of k) ∙ same_filter p q same old

-- a sort of what is made of items

insert_made : {X Y : Type 0} (f : X → ℕ) (n : Y → ℕ) (make : X → Y) → ((x : X) → n (make x) ≡ f x) → (x : X) (ys : List X) → insert_by n (make x) (map make ys) ≡ map make (insert_by f x ys)
insert_made f n make is x [] = refl
insert_made f n make is x (y ∷ ys) =
    rw (is x, is y) (by (insert_made f n make is x ys) (leb (f x) (f y)))
  where
    by : insert_by n (make x) (map make ys) ≡ map make (insert_by f x ys) → (b : Bool) → cond b (make x ∷ (make y ∷ map make ys)) (make y ∷ insert_by n (make x) (map make ys)) ≡ map make (cond b (x ∷ (y ∷ ys)) (y ∷ insert_by f x ys))
    by rest true = refl
    by rest false = ap (λ zs. make y ∷ zs) rest

pub sorted_made : {X Y : Type 0} (f : X → ℕ) (n : Y → ℕ) (make : X → Y) → ((x : X) → n (make x) ≡ f x) → (xs : List X) → sorted_by n (map make xs) ≡ map make (sorted_by f xs)
sorted_made f n make is [] = refl
sorted_made f n make is (x ∷ xs) = ap (insert_by n (make x)) (sorted_made f n make is xs) ∙ insert_made f n make is x (sorted_by f xs)

pub back_made : {X Y : Type 0} (make : X → Y) (back : Y → X) → ((x : X) → back (make x) ≡ x) → (xs : List X) → map back (map make xs) ≡ xs
back_made make back is [] = refl
back_made make back is (x ∷ xs) = ap (λ y. y ∷ map back (map make xs)) (is x) ∙ ap (λ ys. x ∷ ys) (back_made make back is xs)
