-- What is known once each number is that of a joined seat: the slot is home, and the history is the state's.
use Rattle.std.proofs.Common.{◌≡◌, ◌≢◌, ℕ, suc, true, List, [], ◌∷◌, length, refl, sym, ap, ◌∙◌, subst, arith, ⊎_elim, Option, Some}
use mathlib.Core.Option.{some, some-injective}
use mathlib.Core.Logic.{dite}
use native.Mathlib.Decide.{ℕ_discrete, dec_le}
use lib.ListN.{get_elem?}
use Rattle.atomic_table.specs.Table.{State, Final, Seen}
use Rattle.turn_lock.specs.declared.view.View.{View}
use Rattle.turn_lock.specs.Views.{times, own, named, maker_seat}
use Rattle.turn_lock.specs.Rule.{OneMaker, JoinedOf, IsHome, IsOut, Kept}
use Rattle.turn_lock.specs.Joined.{HasEach, Settled}
use Rattle.turn_lock.proofs.Totals.{total_two, total_zero, one_at, times_among}

no_number : (ks : List ℕ) → ((k : ℕ) → times k ks ≡ 0) → ks ≡ []
no_number [] none = refl
no_number (k ∷ ks) none = absurd (let h = none k in let one = one_at k k refl in omega arith)

module _ {B E : Type 0} (o : Option B) (next : ℕ) (joined : List (ℕ × List E)) (seen : List E) (id : ℕ) (n : ℕ) (views : List (View B E)) (at : get_elem? views id ≡ some (maker_seat o next [] joined seen)) (r : OneMaker n views) (all : HasEach n joined) where
  nothing_named : (j : ℕ) (u : View B E) → j ≢ id → get_elem? views j ≡ some u → (k : ℕ) → named k u ≡ 0
  nothing_named j u other there k = dite (dec_le (suc k) n)
      (λ l. let h = all k l in let among = times_among k joined h.0 h.1 h.2 in let two = total_two (named k) views id j (maker_seat o next [] joined seen) u at there other in let one = r.below k l in omega arith)
      (λ l. total_zero (named k) views j u (r.beyond k (omega arith)) there)

  no_numbers : (j : ℕ) (u : View B E) → get_elem? views j ≡ some u → u.numbers ≡ []
  no_numbers j u there = dite (ℕ_discrete j id)
      (λ e. let is : maker_seat o next [] joined seen ≡ u = some-injective (maker_seat o next [] joined seen) u (sym at ∙ (ap (get_elem? views) (sym e) ∙ there)) in ap (λ (v : View B E). v.numbers) (sym is))
      (λ other. no_number u.numbers (λ k. let h = nothing_named j u other there k in omega arith))

module _ {S B E : Type 0} (base : S → B) (entries : S → List E) (caller : E → ℕ) (b : B) (o : Option B) (next : ℕ) (joined : List (ℕ × List E)) (seen : List E) (id : ℕ) where
  module _ (s : State (Option S) (View B E)) (r : Kept base entries caller b s) (at : get_elem? s.views id ≡ some (maker_seat o next [] joined seen)) (all : HasEach next joined) where
    drawn_is : r.next ≡ next
    drawn_is = sym (r.maker.knows id (maker_seat o next [] joined seen) at refl).0

    nobody : (j : ℕ) (u : View B E) → get_elem? s.views j ≡ some u → u.has_turn ≡ true → ⊥
    nobody j u there has =
        let none = no_numbers o next joined seen id r.next s.views at r.maker (subst (λ n. HasEach n joined) (sym drawn_is) all) j u there in
        let fits = r.tickets.each j u there in
        let a : length u.tickets ≡ 1 = ap length (r.turn j u there has).0 in
        let c : length u.numbers ≡ 0 = ap length none in omega arith

    home_now : IsHome base entries b r.history r.slot s.views
    home_now = ⊎_elim (λ h. h) (λ (u : IsOut base entries b r.history r.slot s.views). absurd (nobody u.seat u.view u.at u.has)) r.home

  pub settles : (ws : List ℕ) (xs : List (Option S)) → HasEach next joined → Final (Seen (Kept base entries caller b) id (maker_seat o next [] joined seen)) ws xs
      → (x : S) × (get_elem? xs 0 ≡ some (Some x)) × Settled base entries caller b next joined x
  settles ws xs all f =
      let s : State (Option S) (View B E) = f.0 in
      let r = f.1.0 in
      let at = f.1.1 in
      let h = home_now s r at all in (
        h.state,
        f.4 0 (Some h.state) (ap (λ hs. get_elem? hs 0) r.homes ∙ ap some h.here),
        record {
          same = h.same;
          stand = subst (λ es. JoinedOf caller es (maker_seat {B = B} o next [] joined seen)) (sym h.whole) (r.told.joined id (maker_seat o next [] joined seen) at);
          none_beyond = λ k l. ap (own caller k) h.whole ∙ r.told.none_beyond k (let e = drawn_is s r at all in omega arith);
        },
      )

module _ {S B E : Type 0} (base : S → B) (entries : S → List E) (caller : E → ℕ) (b : B) (id : ℕ) (v : View B E) where
  -- what comes out of the slot, at the maker's seat
  pub settles_at : (ws : List ℕ) (xs : List (Option S)) (taken : Option S) → v ≡ maker_seat v.base v.next [] v.joined v.seen → HasEach v.next v.joined → Final (Seen (Kept base entries caller b) id v) ws xs
      → get_elem? xs 0 ≡ some taken → (x : S) × (taken ≡ Some x) × Settled base entries caller b v.next v.joined x
  settles_at ws xs taken is all f there =
      let h = settles base entries caller b v.base v.next v.joined v.seen id ws xs all (subst (λ u. Final (Seen (Kept base entries caller b) id u) ws xs) is f) in
      (h.0, some-injective taken (Some h.0) (sym there ∙ h.1), h.2)
