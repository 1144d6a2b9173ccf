-- Items one after the other.
use Rattle.std.proofs.Common.{◌≡◌, ◌+◌, ◌*◌, ◌-◌, ◌<◌, ◌++◌, ℕ, suc, List, [], ◌∷◌, Option, Some, None, refl, sym, ap, ◌∙◌, arith, append_assoc, map}
use Rattle.std.specs.Prelude.{option_map}
use Rattle.std.specs.List.{range_with_len}
use Rattle.std.proofs.lemmas.List.{append-nil}
use Rattle.std.proofs.lemmas.List.FromFn.{map-range_with_len_more}
use Rattle.cil_base.specs.Place.{number_at}
use Rattle.il_code.specs.Items.{items_at}

-- what was read so far, and what is to come
abbrev pub with_front : {A : Type 0} → List A → Option (List A) → Option (List A)
with_front front read = option_map (λ rest. front ++ rest) read

items-step : {A : Type 0} (item : ℕ → Option A) (w p n : ℕ) (x : A) → item p ≡ Some x → items_at item w p (suc n) ≡ option_map (λ xs. x ∷ xs) (items_at item w (p + w) n)
unfolding items_at
items-step item w p n x h = rw h refl

items-stop : {A : Type 0} (item : ℕ → Option A) (w p n : ℕ) → item p ≡ None → items_at item w p (suc n) ≡ None
unfolding items_at
items-stop item w p n h = rw h refl

items-none : {A : Type 0} (item : ℕ → Option A) (w p : ℕ) → items_at item w p 0 ≡ Some []
unfolding items_at
items-none item w p = refl

front-more : {A : Type 0} (front : List A) (x : A) (read : Option (List A)) → with_front front (option_map (λ xs. x ∷ xs) read) ≡ with_front (front ++ x ∷ []) read
front-more front x None = refl
front-more front x (Some rest) = ap Some (sym (append_assoc front (x ∷ []) rest))

-- one more item is read
pub items-more : {A : Type 0} (item : ℕ → Option A) (w p left n : ℕ) (x : A) (front : List A) → left ≡ n + 1 → item p ≡ Some x → with_front front (items_at item w p left) ≡ with_front (front ++ x ∷ []) (items_at item w (p + w) n)
items-more item w p left n x front e h =
    let s : left ≡ suc n = omega arith in
    ap (λ k. with_front front (items_at item w p k)) s ∙ ap (with_front front) (items-step item w p n x h) ∙ front-more front x _

-- an item that is not there ends the reading
pub items-end : {A : Type 0} (item : ℕ → Option A) (w p left : ℕ) (front : List A) → 0 < left → item p ≡ None → with_front front (items_at item w p left) ≡ None
items-end item w p left front pos h =
    let s : left ≡ suc (left - 1) = omega arith in
    ap (λ k. with_front front (items_at item w p k)) s ∙ ap (with_front front) (items-stop item w p (left - 1) h)

-- no item is left
pub items-over : {A : Type 0} (item : ℕ → Option A) (w p left : ℕ) (front : List A) → left ≡ 0 → with_front front (items_at item w p left) ≡ Some front
items-over item w p left front e = ap (λ k. with_front front (items_at item w p k)) e ∙ ap (with_front front) (items-none item w p) ∙ ap Some (append-nil front)

-- one more unit of a text
pub utf16-more : (bytes text : List ℕ) (i unit : ℕ) → text ≡ map (λ i. number_at bytes (2 * i) 2) (range_with_len 0 i) → unit ≡ number_at bytes (2 * i) 2 → text ++ unit ∷ [] ≡ map (λ i. number_at bytes (2 * i) 2) (range_with_len 0 (i + 1))
utf16-more bytes text i unit e u = ap (λ t. t ++ unit ∷ []) e ∙ ap (λ n. map (λ i. number_at bytes (2 * i) 2) (range_with_len 0 i) ++ n ∷ []) u ∙ sym (map-range_with_len_more (λ i. number_at bytes (2 * i) 2) 0 i i (omega arith))

-- one more item is read, or is not there, by the items so far with it
pub items-added : {A : Type 0} (item : ℕ → Option A) (w p left n : ℕ) (front more : List A) → left ≡ n + 1 → option_map (λ x. front ++ x ∷ []) (item p) ≡ Some more → with_front front (items_at item w p left) ≡ with_front more (items_at item w (p + w) n)
items-added {A = A} item w p left n front more e h = added (item p) refl h
  where
    added : (o : Option A) → item p ≡ o → option_map (λ x. front ++ x ∷ []) o ≡ Some more → with_front front (items_at item w p left) ≡ with_front more (items_at item w (p + w) n)
    added None i h = absurd (nothing h)
      where
        nothing : None ≡ Some more → ⊥
        nothing h = cc
    added (Some x) i h = items-more item w p left n x front e i ∙ ap (λ z. with_front z (items_at item w (p + w) n)) (same h)
      where
        same : Some (front ++ x ∷ []) ≡ Some more → front ++ x ∷ [] ≡ more
        same h = cc

pub items-missed : {A : Type 0} (item : ℕ → Option A) (w p left : ℕ) (front : List A) → 0 < left → option_map (λ x. front ++ x ∷ []) (item p) ≡ None → with_front front (items_at item w p left) ≡ None
items-missed {A = A} item w p left front pos h = missed (item p) refl h
  where
    missed : (o : Option A) → item p ≡ o → option_map (λ x. front ++ x ∷ []) o ≡ None → with_front front (items_at item w p left) ≡ None
    missed None i h = items-end item w p left front pos i
    missed (Some x) i h = absurd (something h)
      where
        something : Some (front ++ x ∷ []) ≡ None → ⊥
        something h = cc
