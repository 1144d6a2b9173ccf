-- Items of lists by their places.
use Rattle.std.proofs.Common.{◌≡◌, ◌≢◌, refl, sym, ◌∙◌, ap, subst, ℕ, zero, suc, ◌+◌, ◌<◌, ◌≤◌, ◌⊎◌, inl, inr, List, [], ◌∷◌, ◌++◌, Some, length, map, drop, take, option_map, slice_get, slice_set, slice_index_or, get_or, arith, All}
use Rattle.std.specs.Prelude.{remove}
use Rattle.std.proofs.lemmas.List.{length-map, map-append, take_all}
use Rattle.std.proofs.lemmas.List.Elements.{All-more}
use Rattle.std.proofs.lemmas.Option.{get_or_from_slice_get, slice_get-get_or, slice_get-map, slice_get_read, slice_get_within}
use Rattle.shared_module.proofs.PrefixLemmas.{same_item}

pub same_or_not : (i j : ℕ) → (i ≡ j) ⊎ (i ≢ j)
same_or_not zero zero = inl refl
same_or_not zero (suc j) = inr (λ e. omega (arith, e))
same_or_not (suc i) zero = inr (λ e. omega (arith, e))
same_or_not (suc i) (suc j) = further (same_or_not i j)
  where
    further : (i ≡ j) ⊎ (i ≢ j) → (suc i ≡ suc j) ⊎ (suc i ≢ suc j)
    further (inl e) = inl (ap suc e)
    further (inr n) = inr (λ e. n (omega (arith, e)))

module _ {A : Type 0} where
  -- each place within a list has an item
  pub item_at : (xs : List A) (i : ℕ) → i < length xs → (x : A) × (slice_get xs i ≡ Some x)
  item_at [] i l = absurd (omega arith)
  item_at (x ∷ xs) zero l = (x, refl)
  item_at (x ∷ xs) (suc i) l = item_at xs i (omega arith)

  -- and one alone
  pub same_at : (xs : List A) (i : ℕ) (x y : A) → slice_get xs i ≡ Some x → slice_get xs i ≡ Some y → x ≡ y
  same_at xs i x y is so = let both : Some x ≡ Some y = sym is ∙ so in cc

  pub read_at : (xs : List A) (i : ℕ) (x : A) → i < length xs → x ≡ get_or xs i x → slice_get xs i ≡ Some x
  read_at xs i x l is = slice_get_read xs (length xs) i x refl l is

  pub front_item : (xs ys : List A) (i : ℕ) → i < length xs → slice_get (xs ++ ys) i ≡ slice_get xs i
  front_item xs ys i l = same_item xs (xs ++ ys) i (ys, refl) l

  pub last_item : (xs : List A) (x : A) → slice_get (xs ++ x ∷ []) (length xs) ≡ Some x
  last_item [] x = refl
  last_item (y ∷ xs) x = last_item xs x

  pub item_behind : (xs ys : List A) (i : ℕ) → slice_get (xs ++ ys) (length xs + i) ≡ slice_get ys i
  item_behind [] ys i = ap (slice_get ys) (omega arith)
  item_behind (x ∷ xs) ys i =
      let next : length (x ∷ xs) + i ≡ suc (length xs + i) = omega arith in
      ap (slice_get (x ∷ (xs ++ ys))) next ∙ item_behind xs ys i

  pub set_item : (xs : List A) (i : ℕ) (x : A) → i < length xs → slice_get (slice_set xs i x) i ≡ Some x
  set_item [] i x l = absurd (omega arith)
  set_item (y ∷ xs) zero x l = refl
  set_item (y ∷ xs) (suc i) x l = set_item xs i x (omega arith)

  pub other_item : (xs : List A) (i j : ℕ) (x : A) → j ≢ i → slice_get (slice_set xs i x) j ≡ slice_get xs j
  other_item [] i j x n = refl
  other_item (y ∷ xs) zero zero x n = absurd (n refl)
  other_item (y ∷ xs) zero (suc j) x n = refl
  other_item (y ∷ xs) (suc i) zero x n = refl
  other_item (y ∷ xs) (suc i) (suc j) x n = other_item xs i j x (λ e. n (ap suc e))

  -- what is left of a list from place n on: its first item, and what is left without it
  pub first_left : (xs : List A) (n : ℕ) → slice_get (drop n xs) 0 ≡ slice_get xs n
  first_left xs zero = refl
  first_left [] (suc n) = refl
  first_left (x ∷ xs) (suc n) = first_left xs n

  pub left_less : (xs : List A) (n : ℕ) → remove (drop n xs) 0 ≡ drop (n + 1) xs
  left_less [] zero = refl
  left_less (x ∷ xs) zero = refl
  left_less [] (suc n) = let next : suc n + 1 ≡ suc (n + 1) = omega arith in ap (λ k. drop {A = A} k []) (sym next)
  left_less (x ∷ xs) (suc n) =
      let next : suc n + 1 ≡ suc (n + 1) = omega arith in
      left_less xs n ∙ ap (λ k. drop k (x ∷ xs)) (sym next)

  -- the item that is taken from what is left, and what is left then
  pub taken_at : (xs left : List A) (n : ℕ) (x : A) → left ≡ drop n xs → slice_get left 0 ≡ Some x → slice_get xs n ≡ Some x
  taken_at xs left n x is first = sym (first_left xs n) ∙ ap (λ l. slice_get l 0) (sym is) ∙ first

  pub left_then : (xs left less : List A) (n : ℕ) → left ≡ drop n xs → less ≡ remove left 0 → less ≡ drop (n + 1) xs
  left_then xs left less n is then = then ∙ ap (λ l. remove l 0) is ∙ left_less xs n

  -- what holds of each item holds of the item at a place, and the other way round
  pub all_at : (P : A → Type 0) (xs : List A) → All P xs → (i : ℕ) (x : A) → slice_get xs i ≡ Some x → P x
  all_at P xs all i x is = subst P (get_or_from_slice_get xs i x x is) (all i x (slice_get_within xs i x is))

  pub at_all : (P : A → Type 0) (xs : List A) → ((i : ℕ) (x : A) → slice_get xs i ≡ Some x → P x) → All P xs
  at_all P xs each i d l = each i (slice_index_or xs i d) (slice_get-get_or xs i d l)

  -- one item more, and all of them
  pub all_more : (P : A → Type 0) (xs : List A) (i : ℕ) (x : A) → i < length xs → x ≡ get_or xs i x → All P (take i xs) → P x → All P (take (i + 1) xs)
  all_more P xs i x less is all p = All-more P xs i x less all (subst P is p)

  pub all_whole : (P : A → Type 0) (xs : List A) (n : ℕ) → length xs ≤ n → All P (take n xs) → All P xs
  all_whole P xs n less all = subst (All P) (take_all n xs less) all

  take_more : (xs : List A) (n : ℕ) (x : A) → slice_get xs n ≡ Some x → take (n + 1) xs ≡ take n xs ++ x ∷ []
  take_more [] n x is = absurd cc
  take_more (y ∷ xs) zero x is = ap (λ z. z ∷ []) (same_at (y ∷ xs) 0 y x refl is)
  take_more (y ∷ xs) (suc n) x is =
      let next : suc n + 1 ≡ suc (n + 1) = omega arith in
      ap (λ k. take k (y ∷ xs)) next ∙ ap (λ l. y ∷ l) (take_more xs n x is)

  -- lists with the same items in the same places are the same
  pub same_items : (xs ys : List A) → length xs ≡ length ys → ((i : ℕ) (x y : A) → slice_get xs i ≡ Some x → slice_get ys i ≡ Some y → x ≡ y) → xs ≡ ys
  same_items [] [] many each = refl
  same_items [] (y ∷ ys) many each = absurd (omega (arith, many))
  same_items (x ∷ xs) [] many each = absurd (omega (arith, many))
  same_items (x ∷ xs) (y ∷ ys) many each =
      ap (λ z. z ∷ xs) (each 0 x y refl refl) ∙ ap (λ l. y ∷ l) (same_items xs ys (omega (arith, many)) (λ i. each (suc i)))

module _ {A B : Type 0} (f : A → B) where
  pub mapped_item : (xs : List A) (i : ℕ) (x : A) → slice_get xs i ≡ Some x → slice_get (map f xs) i ≡ Some (f x)
  mapped_item xs i x is = slice_get-map f xs i ∙ ap (option_map f) is

  -- the item from which an item of the mapped list comes
  pub item_mapped : (xs : List A) (i : ℕ) (y : B) → slice_get (map f xs) i ≡ Some y → (x : A) × (slice_get xs i ≡ Some x) × (f x ≡ y)
  item_mapped xs i y is =
      let within = slice_get_within (map f xs) i y is in
      let x = item_at xs i (omega (arith, within, length-map xs f)) in
      (x.0, x.1, same_at (map f xs) i (f x.0) y (mapped_item xs i x.0 x.1) is)

  -- a list that is mapped item by item
  pub mapped_more : (xs : List A) (n : ℕ) (x : A) (y : B) (ys more : List B) → slice_get xs n ≡ Some x → y ≡ f x → ys ≡ map f (take n xs) → more ≡ ys ++ y ∷ []
      → more ≡ map f (take (n + 1) xs)
  mapped_more xs n x y ys more at is so_far pushed =
      pushed ∙ ap (λ l. l ++ y ∷ []) so_far ∙ ap (λ z. map f (take n xs) ++ z ∷ []) is ∙ sym (map-append f (take n xs) (x ∷ [])) ∙ ap (map f) (sym (take_more xs n x at))
