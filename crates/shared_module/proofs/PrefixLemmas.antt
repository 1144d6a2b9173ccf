-- Lists that begin others, and what stands behind a beginning.
use Rattle.std.proofs.Common.{◌≡◌, ◌≢◌, refl, sym, ◌∙◌, ap, ℕ, zero, suc, ◌<◌, ◌≤◌, Bool, true, false, List, [], ◌∷◌, ◌++◌, Some, cond, length, take, slice_get, append-nil, append_assoc, arith, eq-eqb, eqb, ◌==◌}
use mathlib.Core.List.{IsPrefix}
use Rattle.std.proofs.lemmas.List.{length-append, take-append-le}
use Rattle.std.proofs.lemmas.List.Elements.{filter-append}
use Rattle.turn_lock.specs.Views.{own}

module _ {E : Type 0} where
  pub begins_itself : (xs : List E) → IsPrefix xs xs
  begins_itself xs = ([], append-nil xs)

  pub begins_further : (xs ys zs : List E) → IsPrefix xs ys → IsPrefix ys zs → IsPrefix xs zs
  begins_further xs ys zs p q = (p.0 ++ q.0, sym (append_assoc xs p.0 q.0) ∙ ap (λ (l : List E). l ++ q.0) p.1 ∙ q.1)

  pub not_longer : (xs ys : List E) → IsPrefix xs ys → length xs ≤ length ys
  not_longer xs ys p = let all = ap length (sym p.1) ∙ length-append xs p.0 in omega (arith, all)

  pub same_front : (xs ys : List E) (i : ℕ) → IsPrefix xs ys → i ≤ length xs → take i ys ≡ take i xs
  same_front xs ys i p l = ap (take i) (sym p.1) ∙ take-append-le i xs p.0 l

  item_of_front : (xs ys : List E) (i : ℕ) → i < length xs → slice_get (xs ++ ys) i ≡ slice_get xs i
  item_of_front [] ys i l = absurd (omega arith)
  item_of_front (x ∷ xs) ys zero l = refl
  item_of_front (x ∷ xs) ys (suc i) l = item_of_front xs ys i (omega arith)

  pub same_item : (xs ys : List E) (i : ℕ) → IsPrefix xs ys → i < length xs → slice_get ys i ≡ slice_get xs i
  same_item xs ys i p l = ap (λ (t : List E). slice_get t i) (sym p.1) ∙ item_of_front xs p.0 i l

  -- an item behind a list with one item more is this one
  pub one_behind : (xs : List E) (x e : E) (i : ℕ) → length xs ≤ i → slice_get (xs ++ x ∷ []) i ≡ Some e → (e ≡ x) × (i ≡ length xs)
  one_behind [] x e zero l is = let same : x ≡ e = cc in (sym same, refl)
  one_behind [] x e (suc i) l is = absurd cc
  one_behind (y ∷ xs) x e zero l is = absurd (omega arith)
  one_behind (y ∷ xs) x e (suc i) l is = let there = one_behind xs x e i (omega arith) is in (there.0, ap suc there.1)

  nothing_behind : (xs ys : List E) → xs ++ ys ≡ xs → ys ≡ []
  nothing_behind [] ys e = e
  nothing_behind (x ∷ xs) ys e = nothing_behind xs ys cc

module _ {E : Type 0} (caller : E → ℕ) (k : ℕ) where
  -- an entry of a caller is among the caller's own
  is_own : (h : List E) (i : ℕ) (e : E) → slice_get h i ≡ Some e → caller e ≡ k → own caller k h ≢ []
  is_own [] i e is mine none = absurd cc
  is_own (x ∷ h) zero e is mine none =
      let same : x ≡ e = cc in
      let kept : cond (eqb (caller x) k) (x ∷ own caller k h) (own caller k h) ≡ x ∷ own caller k h =
      ap (λ (b : Bool). cond b (x ∷ own caller k h) (own caller k h)) (eq-eqb (caller x) k (ap caller same ∙ mine)) in
      absurd cc
  is_own (x ∷ h) (suc i) e is mine none = by_first (eqb (caller x) k) none (is_own h i e is mine)
    where
      by_first : (b : Bool) → cond b (x ∷ own caller k h) (own caller k h) ≡ [] → own caller k h ≢ [] → ⊥
      by_first true n there = absurd cc
      by_first false n there = there n

  own_behind : (seen h : List E) (i : ℕ) (e : E) → length seen ≤ i → slice_get (seen ++ h) i ≡ Some e → caller e ≡ k → own caller k h ≢ []
  own_behind [] h i e l is mine = is_own h i e is mine
  own_behind (x ∷ seen) h zero e l is mine = absurd (omega arith)
  own_behind (x ∷ seen) h (suc i) e l is mine = own_behind seen h i e (omega arith) is mine

  -- where a history has no more of a caller than its beginning has, no entry behind that is of the caller
  pub none_behind : (seen h : List E) → IsPrefix seen h → own caller k h ≡ own caller k seen
      → (i : ℕ) (e : E) → length seen ≤ i → slice_get h i ≡ Some e → caller e ≡ k → ⊥
  none_behind seen h p same i e l is mine =
      own_behind seen p.0 i e l (ap (λ (t : List E). slice_get t i) p.1 ∙ is) mine
      (nothing_behind (own caller k seen) (own caller k p.0) (sym (filter-append (λ (x : E). caller x == k) seen p.0) ∙ ap (own caller k) p.1 ∙ same))
