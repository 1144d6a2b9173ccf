-- Items of lists: what holds of all of them, and lists of tokens that have each token once.
use Rattle.std.proofs.Common.{◌≡◌, ◌∙◌, refl, sym, ap, subst, ℕ, zero, suc, Bool, true, false, cond, List, [], ◌∷◌, ◌++◌, take, drop, arith}
use Rattle.std.specs.Prelude.{◌&&◌, ◌||◌}
use Rattle.std.specs.List.{AllByRecursion, IsDistinct, filter, list_any}
use Rattle.std.proofs.lemmas.Bool.{and_parts, or_parts}
use Rattle.std.proofs.lemmas.Bool.Decides.{nat_tests}
use Rattle.std.proofs.lemmas.Map.Views.{any-filter_same}
use Rattle.cil_base.specs.Token.{Token}
use Rattle.node_model.specs.Keys.{same_token}
use Rattle.node_model.specs.inner.KeyEquality.{token_is, token_self}

pub all_map : {A : Type 0} (P Q : A → Type 0) → ((a : A) → P a → Q a) → (xs : List A) → AllByRecursion P xs → AllByRecursion Q xs
all_map P Q f [] all = tt
all_map P Q f (x ∷ xs) all = (f x all.0, all_map P Q f xs all.1)

pub all_filter : {A : Type 0} (P : A → Type 0) (p : A → Bool) (xs : List A) → AllByRecursion P xs → AllByRecursion P (filter p xs)
all_filter P p [] all = tt
all_filter P p (x ∷ xs) all = by (p x) (all_filter P p xs all.1)
  where
    by : (b : Bool) → AllByRecursion P (filter p xs) → AllByRecursion P (cond b (x ∷ filter p xs) (filter p xs))
    by true rest = (all.0, rest)
    by false rest = rest

-- an item is put in behind a front
pub all_put : {A : Type 0} (P : A → Type 0) (a : A) (front back : List A) → P a → AllByRecursion P (front ++ back) → AllByRecursion P (front ++ (a ∷ back))
all_put P a [] back h all = (h, all)
all_put P a (x ∷ front) back h all = (all.0, all_put P a front back h all.1)

pub all_take : {A : Type 0} (P : A → Type 0) (n : ℕ) (xs : List A) → AllByRecursion P xs → AllByRecursion P (take n xs)
all_take P zero xs all = tt
all_take P (suc n) [] all = tt
all_take P (suc n) (x ∷ xs) all = (all.0, all_take P n xs all.1)

pub all_drop : {A : Type 0} (P : A → Type 0) (n : ℕ) (xs : List A) → AllByRecursion P xs → AllByRecursion P (drop n xs)
all_drop P zero xs all = all
all_drop P (suc n) [] all = tt
all_drop P (suc n) (x ∷ xs) all = all_drop P n xs all.1

pub token_turned : (a b : Token) → same_token a b ≡ same_token b a
token_turned a b = grind (arith, nat_tests)

-- what holds of all tokens holds of one that is among them
pub all_at : (P : Token → Type 0) (t : Token) (ts : List Token) → AllByRecursion P ts → list_any (same_token t) ts ≡ true → P t
all_at P t [] all e = absurd cc
all_at P t (x ∷ ts) all e = by (same_token t x) refl e (all_at P t ts all.1)
  where
    by : (b : Bool) → same_token t x ≡ b → (b || list_any (same_token t) ts) ≡ true → (list_any (same_token t) ts ≡ true → P t) → P t
    by true is e more = subst P (sym (token_is t x is)) all.0
    by false is e more = more e

apart_of : (t : Token) (ts : List Token) → list_any (same_token t) ts ≡ false → AllByRecursion (λ y. same_token t y ≡ false) ts
apart_of t [] e = tt
apart_of t (x ∷ ts) e =
    let parts = or_parts (same_token t x) (list_any (same_token t) ts) e in
    (parts.0, apart_of t ts parts.1)

-- a token that is none of the list is put in
pub distinct_put : (t : Token) (front back : List Token) → IsDistinct same_token (front ++ back) → list_any (same_token t) (front ++ back) ≡ false → IsDistinct same_token (front ++ (t ∷ back))
unfolding IsDistinct
distinct_put t [] back d e = (apart_of t back e, d)
distinct_put t (x ∷ front) back d e =
    let parts = or_parts (same_token t x) (list_any (same_token t) (front ++ back)) e in
    (all_put (λ y. same_token x y ≡ false) t front back (token_turned x t ∙ parts.0) d.0, distinct_put t front back d.1 parts.1)

pub distinct_filter : (p : Token → Bool) (ts : List Token) → IsDistinct same_token ts → IsDistinct same_token (filter p ts)
unfolding IsDistinct
distinct_filter p [] d = tt
distinct_filter p (x ∷ ts) d = by (p x) (distinct_filter p ts d.1)
  where
    by : (b : Bool) → IsDistinct same_token (filter p ts) → IsDistinct same_token (cond b (x ∷ filter p ts) (filter p ts))
    by true rest = (all_filter (λ y. same_token x y ≡ false) p ts d.0, rest)
    by false rest = rest

over : (x y z : Bool) → (x || (y || z)) ≡ (y || (x || z))
over true true z = refl
over true false z = refl
over false y z = refl

pub any_put : (p : Token → Bool) (t : Token) (front back : List Token) → list_any p (front ++ (t ∷ back)) ≡ (p t || list_any p (front ++ back))
any_put p t [] back = refl
any_put p t (x ∷ front) back = ap (λ b. p x || b) (any_put p t front back) ∙ over (p x) (p t) (list_any p (front ++ back))

-- a token is among those that pass where it passes and is among all
pub any_passing : (m : Token) (p : Token → Bool) (ts : List Token) → list_any (same_token m) (filter p ts) ≡ (p m && list_any (same_token m) ts)
any_passing m p ts = any-filter_same (same_token m) p (p m) (λ k same. ap p (sym (token_is m k same))) ts

pub passes_of : (m : Token) (p : Token → Bool) (ts : List Token) → list_any (same_token m) (filter p ts) ≡ true → (p m ≡ true) × (list_any (same_token m) ts ≡ true)
passes_of m p ts e = and_parts (p m) (list_any (same_token m) ts) (sym (any_passing m p ts) ∙ e)
