-- Searches that go over a list from the front and stop at the first item of which something is made.
use Rattle.std.proofs.Common.{◌≡◌, ◌∙◌, sym, ap, refl, ℕ, ◌<◌, ◌+◌, Bool, true, false, cond, List, ◌∷◌, ◌++◌, length, drop, get_or, Option, Some, None, arith}
use Rattle.std.specs.Prelude.{◌||◌}
use Rattle.std.specs.List.{find, flat_map, list_any, range_with_len}
use Rattle.std.proofs.lemmas.List.FromFn.{get_or-range_with_len, length-range_with_len}
use Rattle.std.specs.Option.{option_or}
use Rattle.std.proofs.lemmas.List.Folds.{find-append}
use Rattle.write_plan.proofs.KeptLemmas.{item_at}

module _ {X A : Type 0} (scan : List X → Option A) (made : X → Option A) (step : (x : X) (xs : List X) → scan (x ∷ xs) ≡ option_or (made x) (scan xs)) (xs : List X) (i : ℕ) where
  at_item : (x : X) → i < length xs → x ≡ get_or xs i x → scan (drop i xs) ≡ scan xs → option_or (made x) (scan (drop (i + 1) xs)) ≡ scan xs
  at_item x h is so_far = sym (step x (drop (i + 1) xs)) ∙ ap scan (sym (item_at xs i x h is)) ∙ so_far

  pub scan_next : (x : X) → i < length xs → x ≡ get_or xs i x → scan (drop i xs) ≡ scan xs → made x ≡ None → scan (drop (i + 1) xs) ≡ scan xs
  scan_next x h is so_far none = ap (λ o. option_or o (scan (drop (i + 1) xs))) (sym none) ∙ at_item x h is so_far

  pub scan_here : (x : X) (a : A) → i < length xs → x ≡ get_or xs i x → scan (drop i xs) ≡ scan xs → made x ≡ Some a → Some a ≡ scan xs
  scan_here x a h is so_far found = ap (λ o. option_or o (scan (drop (i + 1) xs))) (sym found) ∙ at_item x h is so_far

-- what `find` makes of an item
abbrev pub passed : {X : Type 0} → (X → Bool) → X → Option X
passed p x = cond (p x) (Some x) None

pub find_step : {X : Type 0} (p : X → Bool) (x : X) (xs : List X) → find p (x ∷ xs) ≡ option_or (passed p x) (find p xs)
find_step p x xs = elim (p x) as (λ b. cond b (Some x) (find p xs) ≡ option_or (cond b (Some x) None) (find p xs)) [ true ↦ refl | false ↦ refl ]

pub flat_step : {X Y : Type 0} (p : Y → Bool) (f : X → List Y) (x : X) (xs : List X) → find p (flat_map f (x ∷ xs)) ≡ option_or (find p (f x)) (find p (flat_map f xs))
flat_step p f x xs = find-append p (f x) (flat_map f xs)

pub is_passed : {X : Type 0} (p : X → Bool) (x : X) → p x ≡ true → passed p x ≡ Some x
is_passed p x e = ap (λ b. cond b (Some x) None) e

pub is_not_passed : {X : Type 0} (p : X → Bool) (x : X) → p x ≡ false → passed p x ≡ None
is_not_passed p x e = ap (λ b. cond b (Some x) None) e

-- the same for a test that passes

any_item : {X : Type 0} (p : X → Bool) (xs : List X) (i : ℕ) (x : X) → i < length xs → x ≡ get_or xs i x → list_any p (drop i xs) ≡ list_any p xs → (p x || list_any p (drop (i + 1) xs)) ≡ list_any p xs
any_item p xs i x h is so_far = ap (list_any p) (sym (item_at xs i x h is)) ∙ so_far

pub any_next : {X : Type 0} (p : X → Bool) (xs : List X) (i : ℕ) (x : X) → i < length xs → x ≡ get_or xs i x → list_any p (drop i xs) ≡ list_any p xs → p x ≡ false → list_any p (drop (i + 1) xs) ≡ list_any p xs
any_next p xs i x h is so_far fails = ap (λ b. b || list_any p (drop (i + 1) xs)) (sym fails) ∙ any_item p xs i x h is so_far

pub any_here : {X : Type 0} (p : X → Bool) (xs : List X) (i : ℕ) (x : X) → i < length xs → x ≡ get_or xs i x → list_any p (drop i xs) ≡ list_any p xs → p x ≡ true → true ≡ list_any p xs
any_here p xs i x h is so_far passes = ap (λ b. b || list_any p (drop (i + 1) xs)) (sym passes) ∙ any_item p xs i x h is so_far

-- numbers from 0 on stand at their places

pub range_long : (n i : ℕ) → i < n → i < length (range_with_len 0 n)
range_long n i h = omega (arith, h, length-range_with_len 0 n)

pub number_of_range : (n i : ℕ) → i < n → i ≡ get_or (range_with_len 0 n) i i
number_of_range n i h = omega (arith, get_or-range_with_len 0 n i i h)

-- an item that fails, and two lists behind it

module _ {X : Type 0} (p : X → Bool) (x : X) (xs ys : List X) (fails : p x ≡ false) where
  behind_item : find p (x ∷ (xs ++ ys)) ≡ option_or (find p xs) (find p ys)
  behind_item = ap (λ b. cond b (Some x) (find p (xs ++ ys))) fails ∙ find-append p xs ys

  pub found_first : (y : X) → find p xs ≡ Some y → Some y ≡ find p (x ∷ (xs ++ ys))
  found_first y found = sym (behind_item ∙ ap (λ o. option_or o (find p ys)) found)

  pub found_later : (r : Option X) → find p xs ≡ None → r ≡ find p ys → r ≡ find p (x ∷ (xs ++ ys))
  found_later r none later = later ∙ sym (behind_item ∙ ap (λ o. option_or o (find p ys)) none)
