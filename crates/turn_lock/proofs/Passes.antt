-- Lists of passes: new ones, and what a lock's end says of each.
use Rattle.std.proofs.Common.{◌≡◌, ◌≢◌, ℕ, zero, suc, ◌+◌, ◌<◌, List, [], ◌∷◌, ◌++◌, map, length, get_or, refl, sym, ap, ◌∙◌, subst, arith, All, Any, Option, Some, slice_index_or, eq-eqb, eqb, cond, Bool, true, false}
use mathlib.Core.Option.{some}
use mathlib.Core.Logic.{dite}
use mathlib.Core.List.{IsPrefix, cons≢nil}
use native.Mathlib.Decide.{dec_le}
use lib.ListN.{get_elem?}
use Rattle.std.specs.List.{range_with_len}
use Rattle.std.proofs.lemmas.List.FromFn.{map-range_with_len_more, length-map-range_with_len, get_or-map-range_with_len}
use Rattle.atomic_table.specs.Seated.{TableId}
use Rattle.atomic_table.proofs.Lists.{at_map, at_index}
use Rattle.turn_lock.specs.Views.{own}
use Rattle.turn_lock.specs.Passes.{PassValue, LockValue, new_pass, fresh_passes, IsPassOf, AreAllOf, AreBack}
use Rattle.atomic_table.specs.Table.{Me}
use Rattle.turn_lock.specs.declared.view.View.{View}
use Rattle.turn_lock.specs.Joined.{HasEach, HasJoined, marks, Settled}

-- a read within the list does not turn on the default
same_read : {A : Type 0} (xs : List A) (i : ℕ) (d : A) → i < length xs → get_or xs i d ≡ get_or xs i (get_or xs i d)
same_read [] i d l = absurd (omega arith)
same_read (x ∷ xs) zero d l = refl
same_read (x ∷ xs) (suc i) d l = same_read xs i d (omega arith)

module _ {B E : Type 0} where
  -- one more new pass
  pub passes_more : (id : TableId) (o : Option B) (n : ℕ) (ps : List (PassValue B E)) (p : PassValue B E) → ps ≡ map (new_pass id o) (range_with_len 0 n) → p ≡ new_pass id o n
      → ps ++ p ∷ [] ≡ map (new_pass id o) (range_with_len 0 (n + 1))
  passes_more id o n ps p old new = ap (λ l. l ++ p ∷ []) old ∙ (ap (λ q. map (new_pass id o) (range_with_len 0 n) ++ q ∷ []) new ∙ sym (map-range_with_len_more (new_pass id o) 0 n n (omega arith)))

  -- the mark of the pass at a place
  mark_at : (ps : List (PassValue B E)) (i : ℕ) (p : PassValue B E) → i < length ps → p ≡ get_or ps i p → get_elem? (marks ps) i ≡ some (p.number, p.seen)
  mark_at ps i p l is = at_map (λ (q : PassValue B E). (q.number, q.seen)) ps i p (at_index ps i p l is)

  -- each caller's mark is there
  pub marks_all : (l : LockValue B) (ps : List (PassValue B E)) → AreAllOf l ps → HasEach l.callers (marks ps)
  marks_all l ps all k less = let found = all.1 k less in
      (found.0, found.1.seen, mark_at ps found.0 found.1 found.2 (sym found.3) ∙ ap (λ n. some (n, found.1.seen)) found.4)

module _ {E : Type 0} (caller : E → ℕ) where
  -- an entry is among those of its caller
  own_there : (es : List E) (i : ℕ) (d : E) (k : ℕ) → i < length es → caller (get_or es i d) ≡ k → own caller k es ≢ []
  own_there [] i d k l is none = absurd (omega arith)
  own_there (e ∷ es) zero d k l is none = let yes : cond (eqb (caller e) k) (e ∷ own caller k es) (own caller k es) ≡ e ∷ own caller k es = ap (λ (t : Bool). cond t (e ∷ own caller k es) (own caller k es)) (eq-eqb (caller e) k is) in
      cons≢nil (sym yes ∙ none)
  own_there (e ∷ es) (suc i) d k l is none = own_later (eqb (caller e) k) none (own_there es i d k (omega arith) is) where
    own_later : (t : Bool) → cond t (e ∷ own caller k es) (own caller k es) ≡ [] → own caller k es ≢ [] → ⊥
    own_later true none there = cons≢nil none
    own_later false none there = there none

module _ {S B E : Type 0} (base : S → B) (entries : S → List E) (caller : E → ℕ) (l : LockValue B) (ps : List (PassValue B E)) (all : AreAllOf l ps) (x : S) (b : B) (n : ℕ) (is : n ≡ l.callers) (r : Settled base entries caller b n (marks ps) x) where
  pub all_seen : All (λ p. IsPrefix p.seen (entries x)) ps
  all_seen i d less = (r.stand i (get_or ps i d).number (get_or ps i d).seen (mark_at ps i (get_or ps i d) less (same_read ps i d less))).0

  pub all_own : All (λ p. own caller p.number (entries x) ≡ own caller p.number p.seen) ps
  all_own i d less = (r.stand i (get_or ps i d).number (get_or ps i d).seen (mark_at ps i (get_or ps i d) less (same_read ps i d less))).1

  pub all_callers : All (λ e. caller e < l.callers) (entries x)
  all_callers i d less = dite (dec_le (suc (caller (get_or (entries x) i d))) l.callers) (λ h. h)
      (λ h. absurd (own_there caller (entries x) i d (caller (get_or (entries x) i d)) less refl (r.none_beyond (caller (get_or (entries x) i d)) (omega arith))))

  pub all_made : All (λ e. Any (λ p. p.number ≡ caller e) ps) (entries x)
  all_made i d less = all.1 (caller (get_or (entries x) i d)) (all_callers i d less)

pub all_front : {A : Type 0} (P : A → Type 0) (xs ys : List A) → All P (xs ++ ys) → All P xs
all_front P [] ys h k d l = absurd (omega arith)
all_front P (x ∷ xs) ys h zero d l = h zero d (omega arith)
all_front P (x ∷ xs) ys h (suc k) d l = all_front P xs ys (λ i e m. h (suc i) e (omega arith)) k d (omega arith)

module _ {B E : Type 0} where
  -- the last pass goes over to the joined seats
  pub marks_moved : (ps : List (PassValue B E)) (p : PassValue B E) (joined : List (ℕ × List E)) → marks ps ++ (p.number, p.seen) ∷ joined ≡ marks (ps ++ p ∷ []) ++ joined
  marks_moved [] p joined = refl
  marks_moved (q ∷ ps) p joined = ap (λ l. (q.number, q.seen) ∷ l) (marks_moved ps p joined)

module _ {S B E : Type 0} (base : S → B) (entries : S → List E) (caller : E → ℕ) (l : LockValue B) (ps : List (PassValue B E)) (m : Me (Option S) (View B E)) (n : ℕ) (joined : HasJoined m n (marks ps)) where
  -- the maker has each number back
  pub end_has : n ≡ l.callers → AreAllOf l ps → HasEach m.0.next m.0.joined
  end_has is all = subst (λ (x : Me (Option S) (View B E)). HasEach x.0.next x.0.joined) (sym joined) (subst (λ k. HasEach k (marks ps)) (sym is) (marks_all l ps all))

  -- what is said of the joined seats, said of the passes
  pub end_settled : (b : B) (x : S) → Settled base entries caller b m.0.next m.0.joined x → Settled base entries caller b n (marks ps) x
  end_settled b x r = subst (λ (y : Me (Option S) (View B E)). Settled base entries caller b y.0.next y.0.joined x) joined r

module _ {B E : Type 0} (l : LockValue B) where
  new_number : (i : ℕ) (d : PassValue B E) → i < l.callers → (slice_index_or (fresh_passes l) i d).number ≡ i
  new_number i d less = ap (λ (p : PassValue B E). p.number) (get_or-map-range_with_len (new_pass l.id (Some l.base)) 0 l.callers i i d less (omega arith))

  -- passes that went to threads as they were new, and came back, are all passes of the lock
  pub all_back : (away back : List (PassValue B E)) → away ≡ fresh_passes l → AreBack l away back → AreAllOf l back
  all_back away back new r =
      let many : length away ≡ l.callers = ap length new ∙ length-map-range_with_len (new_pass l.id (Some l.base)) 0 l.callers in (
        r.of_lock,
        λ k less.
            let d : PassValue B E = new_pass l.id (Some l.base) k in
            let p : PassValue B E = slice_index_or back k d in
            let m = r.as_many in
            let here : k < length back = omega arith in
            (k, p, here, sym (same_read back k d here), r.same k d (omega arith) ∙ (ap (λ ps. (slice_index_or ps k d).number) new ∙ new_number k d less)),
      )

  -- new passes are of their lock
  pub fresh_all : (ps : List (PassValue B E)) → ps ≡ fresh_passes l → All (IsPassOf l) ps
  fresh_all ps new i d less =
      let many : length ps ≡ l.callers = ap length new ∙ length-map-range_with_len (new_pass l.id (Some l.base)) 0 l.callers in
      let at : slice_index_or ps i d ≡ new_pass l.id (Some l.base) i = ap (λ q. slice_index_or q i d) new ∙ get_or-map-range_with_len (new_pass l.id (Some l.base)) 0 l.callers i i d (omega arith) (omega arith) in
      (ap (λ (p : PassValue B E). p.lock) at, ap (λ (p : PassValue B E). p.base) at)
