-- Lists of entries: those of one caller, and beginnings.
use Rattle.std.proofs.Common.{◌≡◌, ◌≢◌, ℕ, zero, suc, ◌+◌, ◌<◌, length, take, slice_get, Some, refl, arith, List, [], ◌∷◌, ◌++◌, cond, sym, ap, ◌∙◌, eq-eqb, ne_eqb, ◌==◌, append-nil, append_assoc, Bool}
use mathlib.Core.List.{IsPrefix}
use Rattle.std.proofs.lemmas.List.Elements.{filter-append}
use Rattle.turn_lock.specs.Views.{own}

module _ {E : Type 0} where
  pub prefix_longer : (xs ys zs : List E) → IsPrefix xs ys → IsPrefix xs (ys ++ zs)
  prefix_longer xs ys zs h = (h.0 ++ zs, sym (append_assoc xs h.0 zs) ∙ ap (λ (l : List E). l ++ zs) h.1)

  module _ (caller : E → ℕ) where
    pub own_here : (k : ℕ) (es : List E) (e : E) → caller e ≡ k → own caller k (es ++ e ∷ []) ≡ own caller k es ++ e ∷ []
    own_here k es e is = filter-append (λ (x : E). caller x == k) es (e ∷ []) ∙ ap (λ (t : Bool). own caller k es ++ cond t (e ∷ []) []) (eq-eqb (caller e) k is)

    pub own_else : (k : ℕ) (es : List E) (e : E) → caller e ≢ k → own caller k (es ++ e ∷ []) ≡ own caller k es
    own_else k es e n = filter-append (λ (x : E). caller x == k) es (e ∷ []) ∙ (ap (λ (t : Bool). own caller k es ++ cond t (e ∷ []) []) (ne_eqb (caller e) k n) ∙ append-nil (own caller k es))

  -- the entry at a place, and the entries up to it
  pub entry_at : (xs : List E) (n : ℕ) → n < length xs → (e : E) × (slice_get xs n ≡ Some e) × (take (n + 1) xs ≡ take n xs ++ e ∷ [])
  entry_at [] n l = absurd (omega arith)
  entry_at (x ∷ xs) zero l = (x, refl, refl)
  entry_at (x ∷ xs) (suc n) l = let h = entry_at xs n (omega arith) in (h.0, h.1, more x xs n h.0 h.2) where
    more : (x : E) (xs : List E) (n : ℕ) (e : E) → take (n + 1) xs ≡ take n xs ++ e ∷ [] → take (suc n + 1) (x ∷ xs) ≡ x ∷ (take n xs ++ e ∷ [])
    more x xs n e is = let step : suc n + 1 ≡ suc (n + 1) = omega arith in ap (λ k. take k (x ∷ xs)) step ∙ ap (λ l. x ∷ l) is
