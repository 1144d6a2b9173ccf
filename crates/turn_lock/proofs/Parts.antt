-- Each part of the rule, where one view changes or a view is added.
use Rattle.std.proofs.Common.{◌≡◌, ◌≢◌, ◌⊎◌, ℕ, zero, suc, ◌+◌, ◌<◌, ◌≤◌, true, false, List, [], ◌∷◌, ◌++◌, length, set, refl, sym, ap, ◌∙◌, subst, inl, inr, ⊎_elim, Option, Some}
use mathlib.Core.Option.{some, some-injective, some-ne-none}
use mathlib.Core.Option as maybe
use mathlib.Core.Logic.{dite}
use mathlib.Core.List.{IsPrefix}
use native.Mathlib.Decide.{ℕ_discrete}
use lib.ListN.{get_elem?}
use Rattle.atomic_table.proofs.Lists.{at_set, set_else, at_snoc, at_longer}
use Rattle.turn_lock.specs.declared.view.View.{View}
use Rattle.turn_lock.specs.Views.{times, Each, named, names, making}
use Rattle.turn_lock.specs.Rule.{OneMaker, Ticketed, OwnsOf, NoneToGive, JoinedOf, Told, IsHome, IsOut}
use Rattle.turn_lock.proofs.Totals.{total_same}

module _ {V : Type 0} where
  pub set_at : (views : List V) (i : ℕ) (v w : V) → get_elem? views i ≡ some v → get_elem? (set views i w) i ≡ some w
  set_at [] i v w e = absurd (some-ne-none v (sym e))
  set_at (x ∷ xs) zero v w e = refl
  set_at (x ∷ xs) (suc i) v w e = set_at xs i v w e

  pub each_but : (P : V → Type 0) (views : List V) (id : ℕ) (w : V) → ((j : ℕ) (u : V) → j ≢ id → get_elem? views j ≡ some u → P u) → P w → Each (set views id w) P
  each_but P views id w others mine j u e = ⊎_elim (λ (t : (j ≡ id) × (w ≡ u)). subst P t.1 mine) (λ (t : (j ≢ id) × (get_elem? views j ≡ some u)). others j u t.0 t.1) (at_set views id j w u e)

  pub each_set : (P : V → Type 0) (views : List V) (id : ℕ) (w : V) → Each views P → P w → Each (set views id w) P
  each_set P views id w each mine = each_but P views id w (λ j u n e. each j u e) mine

  pub each_snoc : (P : V → Type 0) (views : List V) (w : V) → Each views P → P w → Each (views ++ w ∷ []) P
  each_snoc P views w each mine j u e = ⊎_elim (λ (t : get_elem? views j ≡ some u). each j u t) (λ (t : w ≡ u). subst P t mine) (at_snoc views w u j e)

module _ {B E : Type 0} where
  -- what the rule says of the view of a maker
  abbrev pub MakerKnows : ℕ → View B E → Type 0
  MakerKnows next v = v.is_maker ≡ true → (v.next ≡ next) × (v.numbers ≡ []) × (v.tickets ≡ []) × (v.has_turn ≡ false) × (length v.to_give ≤ 1)

  abbrev pub TicketFits : View B E → Type 0
  TicketFits v = length v.tickets ≤ length v.numbers

  abbrev pub HasBase : B → View B E → Type 0
  HasBase b v = 0 < making v + length v.numbers → v.base ≡ Some b

  module _ (views : List (View B E)) (id : ℕ) (v w : View B E) (at : get_elem? views id ≡ some v) where
    pub maker_kept : (next : ℕ) → OneMaker next views → making w ≡ making v → ((k : ℕ) → named k w ≡ named k v) → names w ≡ names v → MakerKnows next w → OneMaker next (set views id w)
    maker_kept next r one each all knows = record {
      one = total_same making views id v w at one ∙ r.one;
      small = r.small;
      knows = each_set (MakerKnows next) views id w r.knows knows;
      below = λ k l. total_same (named k) views id v w at (each k) ∙ r.below k l;
      beyond = λ k l. total_same (named k) views id v w at (each k) ∙ r.beyond k l;
      all = total_same names views id v w at all ∙ r.all;
    }

    pub tickets_kept : (served drawn : ℕ) → Ticketed served drawn views → ((t : ℕ) → times t w.tickets ≡ times t v.tickets) → length w.tickets ≡ length v.tickets → TicketFits w → Ticketed served drawn (set views id w)
    tickets_kept served drawn r each all fits = record {
      held = λ t l h. total_same (λ (u : View B E). times t u.tickets) views id v w at (each t) ∙ r.held t l h;
      past = λ t l. total_same (λ (u : View B E). times t u.tickets) views id v w at (each t) ∙ r.past t l;
      later = λ t l. total_same (λ (u : View B E). times t u.tickets) views id v w at (each t) ∙ r.later t l;
      count = ap (λ n. served + n) (total_same (λ (u : View B E). length u.tickets) views id v w at all) ∙ r.count;
      each = each_set TicketFits views id w r.each fits;
    }

    pub told_kept : (caller : E → ℕ) (next : ℕ) (history : List E) → Told caller next history views → IsPrefix w.seen history → OwnsOf caller history w → NoneToGive caller history w → JoinedOf caller history w → Told caller next history (set views id w)
    told_kept caller next history r seen owns to_give joined = record {
      seen = each_set (λ u. IsPrefix u.seen history) views id w r.seen seen;
      owns = each_set (OwnsOf caller history) views id w r.owns owns;
      to_give = each_set (NoneToGive caller history) views id w r.to_give to_give;
      joined = each_set (JoinedOf caller history) views id w r.joined joined;
      none_beyond = r.none_beyond;
    }

    module _ {S : Type 0} (base : S → B) (entries : S → List E) (b : B) (history : List E) (slot : maybe.Option (Option S)) where
      pub home_kept : w.has_turn ≡ v.has_turn → IsHome base entries b history slot views ⊎ IsOut base entries b history slot views
          → IsHome base entries b history slot (set views id w) ⊎ IsOut base entries b history slot (set views id w)
      home_kept same (inl h) = inl record {
        state = h.state;
        here = h.here;
        same = h.same;
        whole = h.whole;
        free = each_set (λ u. u.has_turn ≡ false) views id w h.free (same ∙ h.free id v at);
      }
      home_kept same (inr o) = dite (ℕ_discrete o.seat id)
          (λ e. let is : v ≡ o.view = some-injective v o.view (sym at ∙ (ap (get_elem? views) (sym e) ∙ o.at)) in
          inr record { seat = id; view = w; gone = o.gone; at = set_at views id v w at; has = same ∙ (ap (λ (u : View B E). u.has_turn) is ∙ o.has) })
          (λ n. inr record { seat = o.seat; view = o.view; gone = o.gone; at = set_else views id o.seat w n ∙ o.at; has = o.has })

  module _ (views : List (View B E)) (w : View B E) {S : Type 0} (base : S → B) (entries : S → List E) (b : B) (history : List E) (slot : maybe.Option (Option S)) where
    -- one more view, without the turn
    pub home_longer : w.has_turn ≡ false → IsHome base entries b history slot views ⊎ IsOut base entries b history slot views
        → IsHome base entries b history slot (views ++ w ∷ []) ⊎ IsOut base entries b history slot (views ++ w ∷ [])
    home_longer free (inl h) = inl record {
      state = h.state;
      here = h.here;
      same = h.same;
      whole = h.whole;
      free = each_snoc (λ u. u.has_turn ≡ false) views w h.free free;
    }
    home_longer free (inr o) = inr record { seat = o.seat; view = o.view; gone = o.gone; at = at_longer views (w ∷ []) o.seat o.view o.at; has = o.has }
