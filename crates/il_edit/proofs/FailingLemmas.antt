-- The first item that fails a test.
use Rattle.std.proofs.Common.{◌≡◌, ◌+◌, ◌<◌, ◌≤◌, ◌++◌, ℕ, suc, List, [], ◌∷◌, length, map, drop, get_or, Bool, true, false, cond, not, Option, Some, None, refl, sym, ap, ◌∙◌, arith}
use Rattle.std.specs.Prelude.{option_map}
use Rattle.std.specs.List.{enumerate_from, find}
use Rattle.std.specs.Option.{option_or}
use Rattle.std.proofs.lemmas.List.{at_drop_more, drop_all}
use Rattle.il_code.specs.Edited.{first_failing}
use Rattle.il_edit.specs.inner.Failing.{failing_from}

pub failing-none : {A : Type 0} (test : A → Bool) (k : ℕ) → failing_from test k [] ≡ None
unfolding failing_from
failing-none test k = refl

pub failing-passed : {A : Type 0} (test : A → Bool) (k : ℕ) (x : A) (xs : List A) → test x ≡ true → failing_from test k (x ∷ xs) ≡ failing_from test (k + 1) xs
unfolding failing_from
failing-passed test k x xs t = rw t refl

pub failing-found : {A : Type 0} (test : A → Bool) (k : ℕ) (x : A) (xs : List A) → test x ≡ false → failing_from test k (x ∷ xs) ≡ Some k
unfolding failing_from
failing-found test k x xs t = rw t refl

-- it is the one that is found among the numbered items
failing-at : {A : Type 0} (test : A → Bool) (k : ℕ) (xs : List A) → option_map (λ (e : ℕ × A). e.0) (find (λ (e : ℕ × A). not (test e.1)) (enumerate_from k xs)) ≡ failing_from test k xs
failing-at test k [] = sym (failing-none test k)
failing-at {A = A} test k (x ∷ xs) = stepped (failing-at test (k + 1) xs) (test x) refl
  where
    f : Option (ℕ × A) → Option ℕ
    f = option_map (λ (e : ℕ × A). e.0)

    stepped : f (find (λ (e : ℕ × A). not (test e.1)) (enumerate_from (k + 1) xs)) ≡ failing_from test (k + 1) xs → (t : Bool) → test x ≡ t → f (find (λ (e : ℕ × A). not (test e.1)) (enumerate_from k (x ∷ xs))) ≡ failing_from test k (x ∷ xs)
    stepped ih true t = ap (λ b. f (cond (not b) (Some (k, x)) (find (λ (e : ℕ × A). not (test e.1)) (enumerate_from (k + 1) xs)))) t ∙ ih ∙ sym (failing-passed test k x xs t)
    stepped ih false t = ap (λ b. f (cond (not b) (Some (k, x)) (find (λ (e : ℕ × A). not (test e.1)) (enumerate_from (k + 1) xs)))) t ∙ sym (failing-found test k x xs t)

pub failing-is : {A : Type 0} (test : A → Bool) (xs : List A) → first_failing test xs ≡ failing_from test 0 xs
failing-is test xs = failing-at test 0 xs

pub failing-append : {A : Type 0} (test : A → Bool) (k : ℕ) (xs ys : List A) → failing_from test k (xs ++ ys) ≡ option_or (failing_from test k xs) (failing_from test (k + length xs) ys)
failing-append test k [] ys = ap (λ n. failing_from test n ys) (zero_more k) ∙ sym (ap (λ o. option_or o (failing_from test (k + 0) ys)) (failing-none test k))
  where
    zero_more : (k : ℕ) → k ≡ k + 0
    zero_more k = omega arith
failing-append test k (x ∷ xs) ys = stepped (failing-append test (k + 1) xs ys) (test x) refl
  where
    stepped : failing_from test (k + 1) (xs ++ ys) ≡ option_or (failing_from test (k + 1) xs) (failing_from test (k + 1 + length xs) ys) → (t : Bool) → test x ≡ t → failing_from test k (x ∷ (xs ++ ys)) ≡ option_or (failing_from test k (x ∷ xs)) (failing_from test (k + length (x ∷ xs)) ys)
    stepped ih true t =
        failing-passed test k x (xs ++ ys) t ∙ ih
        ∙ ap (λ n. option_or (failing_from test (k + 1) xs) (failing_from test n ys)) (more k (length xs))
        ∙ ap (λ o. option_or o (failing_from test (k + length (x ∷ xs)) ys)) (sym (failing-passed test k x xs t))
      where
        more : (k n : ℕ) → k + 1 + n ≡ k + suc n
        more k n = omega arith
    stepped ih false t = failing-found test k x (xs ++ ys) t ∙ sym (ap (λ o. option_or o (failing_from test (k + length (x ∷ xs)) ys)) (failing-found test k x xs t))

-- the first of two parts, of an item between, or of the second part

start : (n : ℕ) → n ≡ 0 + n
start n = omega arith

pub joined-found : {A : Type 0} (test : A → Bool) (xs ys : List A) (i : ℕ) → Some i ≡ failing_from test 0 xs → Some i ≡ failing_from test 0 (xs ++ ys)
joined-found test xs ys i h = ap (λ o. option_or o (failing_from test (0 + length xs) ys)) h ∙ sym (failing-append test 0 xs ys)

pub joined-rest : {A : Type 0} (test : A → Bool) (xs ys : List A) (n : ℕ) (o : Option ℕ) → None ≡ failing_from test 0 xs → n ≡ length xs → o ≡ failing_from test n ys → o ≡ failing_from test 0 (xs ++ ys)
joined-rest test xs ys n o h e k =
    k ∙ ap (λ m. failing_from test m ys) (e ∙ start (length xs))
    ∙ ap (λ o. option_or o (failing_from test (0 + length xs) ys)) h ∙ sym (failing-append test 0 xs ys)

pub joined-item : {A : Type 0} (test : A → Bool) (xs ys : List A) (x : A) (n : ℕ) → None ≡ failing_from test 0 xs → n ≡ length xs → test x ≡ false → Some n ≡ failing_from test 0 (xs ++ x ∷ ys)
joined-item test xs ys x n h e t = joined-rest test xs (x ∷ ys) n (Some n) h e (sym (failing-found test n x ys t))

pub joined-over : {A : Type 0} (test : A → Bool) (xs ys : List A) (x : A) (n : ℕ) (o : Option ℕ) → None ≡ failing_from test 0 xs → n ≡ length xs → test x ≡ true → o ≡ failing_from test (n + 1) ys → o ≡ failing_from test 0 (xs ++ x ∷ ys)
joined-over test xs ys x n o h e t k = joined-rest test xs (x ∷ ys) n o h e (k ∙ sym (failing-passed test n x ys t))

pub none-parts : (a b : Option ℕ) → option_or a b ≡ None → (a ≡ None) × (b ≡ None)
none-parts None b h = (refl, h)
none-parts (Some i) b h = absurd (nothing h)
  where
    nothing : Some i ≡ None → ⊥
    nothing e = cc

-- two parts of which nothing fails, and an item between

pub none-joined : {A : Type 0} (test : A → Bool) (xs ys : List A) → failing_from test 0 (xs ++ ys) ≡ None → (failing_from test 0 xs ≡ None) × (failing_from test (0 + length xs) ys ≡ None)
none-joined test xs ys h = none-parts (failing_from test 0 xs) (failing_from test (0 + length xs) ys) (sym (failing-append test 0 xs ys) ∙ h)

-- where none fails, all pass
pub record Passes {A : Type 0} (test : A → Bool) (k : ℕ) (x : A) (xs : List A) : Type 0 where
  pub first : test x ≡ true
  pub others : failing_from test (k + 1) xs ≡ None

pub passes : {A : Type 0} (test : A → Bool) (k : ℕ) (x : A) (xs : List A) → failing_from test k (x ∷ xs) ≡ None → Passes test k x xs
passes test k x xs h = by_test (test x) refl
  where
    nothing : Some k ≡ None → ⊥
    nothing e = cc

    by_test : (t : Bool) → test x ≡ t → Passes test k x xs
    by_test true t = record { first = t; others = sym (failing-passed test k x xs t) ∙ h }
    by_test false t = absurd (nothing (sym (failing-found test k x xs t) ∙ h))

-- a loop over items that a function makes of others

ahead-step : {A B : Type 0} (test : B → Bool) (f : A → B) (n i : ℕ) (x : A) (xs : List A) → i < length xs → failing_from test n (map f (drop i xs)) ≡ failing_from test n (f (get_or xs i x) ∷ map f (drop (i + 1) xs))
ahead-step test f n i x xs h = at_drop_more (λ rest. failing_from test n (map f rest)) xs i x h

pub ahead-found : {A B : Type 0} (test : B → Bool) (f : A → B) (base i : ℕ) (x : A) (xs : List A) → i < length xs → x ≡ get_or xs i x → failing_from test (base + i) (map f (drop i xs)) ≡ failing_from test base (map f xs) → test (f x) ≡ false → Some (base + i) ≡ failing_from test base (map f xs)
ahead-found test f base i x xs h e before t =
    sym (failing-found test (base + i) (f x) (map f (drop (i + 1) xs)) t)
    ∙ ap (λ y. failing_from test (base + i) (f y ∷ map f (drop (i + 1) xs))) e
    ∙ sym (ahead-step test f (base + i) i x xs h) ∙ before

pub ahead-passed : {A B : Type 0} (test : B → Bool) (f : A → B) (base i : ℕ) (x : A) (xs : List A) → i < length xs → x ≡ get_or xs i x → failing_from test (base + i) (map f (drop i xs)) ≡ failing_from test base (map f xs) → test (f x) ≡ true → failing_from test (base + (i + 1)) (map f (drop (i + 1) xs)) ≡ failing_from test base (map f xs)
ahead-passed test f base i x xs h e before t =
    ap (λ n. failing_from test n (map f (drop (i + 1) xs))) (more base i)
    ∙ sym (failing-passed test (base + i) (f x) (map f (drop (i + 1) xs)) t)
    ∙ ap (λ y. failing_from test (base + i) (f y ∷ map f (drop (i + 1) xs))) e
    ∙ sym (ahead-step test f (base + i) i x xs h) ∙ before
  where
    more : (k n : ℕ) → k + (n + 1) ≡ k + n + 1
    more k n = omega arith

pub ahead-over : {A B : Type 0} (test : B → Bool) (f : A → B) (base i : ℕ) (xs : List A) → length xs ≤ i → failing_from test (base + i) (map f (drop i xs)) ≡ failing_from test base (map f xs) → None ≡ failing_from test base (map f xs)
ahead-over test f base i xs h before = sym (failing-none test (base + i)) ∙ sym (ap (λ rest. failing_from test (base + i) (map f rest)) (drop_all i xs h)) ∙ before
