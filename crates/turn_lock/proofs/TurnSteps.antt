-- Counting an entry and passing the turn on keep the rule.
use Rattle.std.proofs.Common.{◌≡◌, ◌≢◌, ℕ, suc, ◌+◌, ◌%◌, ◌^◌, ◌<◌, Bool, true, false, List, [], ◌∷◌, ◌++◌, length, set, get_or, take, refl, sym, ap, ◌∙◌, subst, arith, inl, inr, ⊎_elim, Option, Some, true≢false, append-nil, length-append, mod-eq_of_lt}
use mathlib.Core.Option.{some, some-ne-none}
use mathlib.Core.Logic.{dite}
use mathlib.Core.List.{IsPrefix}
use native.Mathlib.Decide.{ℕ_discrete, dec_le}
use lib.ListN.{get_elem?}
use Rattle.std.proofs.Math.Nat.{mod-add-mod}
use Rattle.atomic_table.specs.Table.{State, keeps, gives, Allows}
use Rattle.turn_lock.specs.declared.view.View.{View}
use Rattle.turn_lock.specs.Views.{times, own, named, idle, turning}
use Rattle.turn_lock.specs.Rule.{OneMaker, Ticketed, HasTurn, OwnsOf, NoneToGive, JoinedOf, Told, IsHome, IsOut, Kept}
use Rattle.turn_lock.specs.Steps.{CountsEntry, PassesOn}
use Rattle.turn_lock.proofs.Totals.{total_set, total_two, total_at, one_at, none_at, times_among}
use Rattle.turn_lock.proofs.Entries.{prefix_longer, own_else}
use Rattle.turn_lock.proofs.Parts.{TicketFits, HasBase, set_at, each_but, each_set, maker_kept, tickets_kept, told_kept}
use Rattle.turn_lock.proofs.TicketSteps.{ticket_alone, ticket_within}

pub not_true : (x : Bool) → (x ≡ true → ⊥) → x ≡ false
not_true true n = absurd (n refl)
not_true false n = refl

module _ {B E : Type 0} (next : ℕ) (views : List (View B E)) (id : ℕ) (v : View B E) (at : get_elem? views id ≡ some v) (k : ℕ) (has : v.numbers ≡ k ∷ []) (r : OneMaker next views) where
  named_here : 0 < named k v
  named_here = let e : times k v.numbers ≡ 1 = ap (times k) has ∙ omega (arith, one_at k k refl) in omega arith

  pub number_drawn : k < next
  number_drawn = dite (dec_le (suc k) next) (λ l. l) (λ n. absurd (let z = r.beyond k (omega arith) in let h = total_at (named k) views id v at in let p = named_here in omega arith))

  -- no other view has the number
  pub number_alone : (j : ℕ) (u : View B E) → j ≢ id → get_elem? views j ≡ some u → named k u ≡ 0
  number_alone j u other there =
      let two = total_two (named k) views id j v u at there other in let one = r.below k number_drawn in let p = named_here in omega arith

module _ {B E : Type 0} (k : ℕ) (u : View B E) (none : named k u ≡ 0) where
  pub not_own : (j : ℕ) → u.numbers ≡ j ∷ [] → k ≢ j
  not_own j is e = let h : times k u.numbers ≡ 1 = ap (times k) is ∙ omega (arith, one_at j k (sym e)) in omega arith

  pub not_to_give : (j : ℕ) → u.to_give ≡ j ∷ [] → k ≢ j
  not_to_give j is e = let h : times k u.to_give ≡ 1 = ap (times k) is ∙ omega (arith, one_at j k (sym e)) in omega arith

  pub not_joined : (i j : ℕ) (l : List E) → get_elem? u.joined i ≡ some (j, l) → k ≢ j
  not_joined i j l at e = let h = times_among k u.joined i l (subst (λ x. get_elem? u.joined i ≡ some (x, l)) (sym e) at) in omega arith

module _ {S B E : Type 0} (base : S → B) (entries : S → List E) (caller : E → ℕ) (b : B) (s : State (Option S) (View B E)) (r : Kept base entries caller b s) (id t : ℕ) (v : View B E) (at : get_elem? s.views id ≡ some v) (has : v.tickets ≡ t ∷ []) (turn : v.has_turn ≡ true) where
  pub ticket_is_served : r.served ≡ t
  ticket_is_served = let e : t ∷ [] ≡ r.served ∷ [] = sym has ∙ (r.turn id v at turn).0 in cc

  -- no other seat has the turn
  pub turn_alone : (j : ℕ) (u : View B E) → j ≢ id → get_elem? s.views j ≡ some u → u.has_turn ≡ true → ⊥
  turn_alone j u other there also = ticket_alone r.served r.drawn s.views id t v at has r.tickets j u other there ((r.turn j u there also).0 ∙ ap (λ n. n ∷ []) ticket_is_served)

  pub slot_out : IsOut base entries b r.history r.slot s.views
  slot_out = ⊎_elim (λ (h : IsHome base entries b r.history r.slot s.views). absurd (true≢false (sym turn ∙ h.free id v at))) (λ u. u) r.home

module _ {B E : Type 0} (caller : E → ℕ) (o : Option B) (k t : ℕ) (seen : List E) (id : ℕ) (next : ℕ) (views : List (View B E)) (at : get_elem? views id ≡ some (turning o k t seen)) (m : OneMaker next views) where
  told_counted : (e : E) → caller e ≡ k → Told caller next seen views → Told caller next (seen ++ e ∷ []) (set views id (turning o k t (seen ++ e ∷ [])))
  told_counted e mine r =
      let v : View B E = turning o k t seen in
      let w : View B E = turning o k t (seen ++ e ∷ []) in
      let alone = number_alone next views id v at k refl m in
      let else : (j : ℕ) → k ≢ j → own caller j (seen ++ e ∷ []) ≡ own caller j seen = λ j n. own_else caller j seen e (λ (is : caller e ≡ j). n (sym mine ∙ is)) in
      record {
        seen = each_but (λ u. IsPrefix u.seen (seen ++ e ∷ [])) views id w (λ j u other there. prefix_longer u.seen seen (e ∷ []) (r.seen j u there)) ([], append-nil (seen ++ e ∷ []));
        owns = each_but (OwnsOf caller (seen ++ e ∷ [])) views id w (λ j u other there i is. else i (not_own k u (alone j u other there) i is) ∙ r.owns j u there i is) (λ i is. refl);
        to_give = each_but (NoneToGive caller (seen ++ e ∷ [])) views id w (λ j u other there i is. else i (not_to_give k u (alone j u other there) i is) ∙ r.to_give j u there i is) (λ i is. cc);
        joined = each_but (JoinedOf caller (seen ++ e ∷ [])) views id w
            (λ j u other there i n l is. (prefix_longer l seen (e ∷ []) (r.joined j u there i n l is).0, else n (not_joined k u (alone j u other there) i n l is) ∙ (r.joined j u there i n l is).1))
            (λ i n l is. absurd (some-ne-none (n, l) (sym is)));
        none_beyond = λ j l. else j (let d = number_drawn next views id v at k refl m in λ (is : k ≡ j). omega arith) ∙ r.none_beyond j l;
      }

module _ {S B E : Type 0} (base : S → B) (entries : S → List E) (caller : E → ℕ) (b : B) (o : Option B) (k t : ℕ) (seen : List E) (id : ℕ) where
  pub counts_entry : (slots : ℕ) (c : List (ℕ × Option S)) (all : List E) (e : E) → take (length seen + 1) all ≡ seen ++ e ∷ [] → caller e ≡ k → length seen + 1 < 18446744073709551616
      → Allows (Kept base entries caller b) slots id (turning o k t seen, c) 2 (λ n. (n + 1) % 2 ^ 64) (CountsEntry all (turning o k t seen, c))
  counts_entry slots c all e next is fits s r deep at room =
      let v : View B E = turning o k t seen in
      let w : View B E = turning o k t (seen ++ e ∷ []) in
      let whole : seen ≡ r.history = (r.turn id v at refl).1 in
      let found : get_or s.words 2 0 ≡ length seen = ap (λ ws. get_or ws 2 0) r.words ∙ ap length (sym whole) in
      let out = slot_out base entries caller b s r id t v at refl refl in
      let alone = turn_alone base entries caller b s r id t v at refl refl in (
        w,
        keeps,
        tt,
        record {
          served = r.served;
          drawn = r.drawn;
          next = r.next;
          history = seen ++ e ∷ [];
          slot = r.slot;
          words = ap (λ ws. set ws 2 ((get_or s.words 2 0 + 1) % 18446744073709551616)) r.words
              ∙ ap (λ n. r.drawn % 18446744073709551616 ∷ r.served % 18446744073709551616 ∷ n ∷ r.next ∷ []) (ap (λ n. (n + 1) % 18446744073709551616) found ∙ (mod-eq_of_lt fits ∙ sym (length-append seen (e ∷ []))));
          homes = r.homes;
          maker = maker_kept s.views id v w at r.next r.maker refl (λ _. refl) refl (λ x. cc);
          tickets = tickets_kept s.views id v w at r.served r.drawn r.tickets (λ _. refl) refl (r.tickets.each id v at);
          turn = each_but (HasTurn r.served (seen ++ e ∷ [])) s.views id w (λ j u other there has. absurd (alone j u other there has)) (λ _. ((r.turn id v at refl).0, refl));
          based = each_set (HasBase b) s.views id w r.based (λ _. r.based id v at (omega arith));
          home = inr record { seat = id; view = w; gone = out.gone; at = set_at s.views id v w at; has = refl };
          told = told_counted caller o k t seen id r.next s.views at r.maker e is (subst (λ h. Told caller r.next h s.views) (sym whole) r.told);
        },
        ap (λ l. (turning o k t l, c)) (sym next),
      )

  ticket_done : (served drawn : ℕ) (views : List (View B E)) → get_elem? views id ≡ some (turning o k t seen) → served ≡ t → Ticketed served drawn views → Ticketed (served + 1) drawn (set views id (idle o k seen))
  ticket_done served drawn views at now r =
      let v : View B E = turning o k t seen in
      let w : View B E = idle o k seen in
      let f : ℕ → View B E → ℕ = λ n u. times n u.tickets in
      let within = ticket_within served drawn views id t v at refl r in
      record {
        held = λ n l h. let z = total_set (f n) views id v w at in let y = r.held n (omega arith) h in let x = none_at t n (λ e. omega arith) in omega arith;
        past = λ n l. let z = total_set (f n) views id v w at in dite (ℕ_discrete t n)
            (λ e. let y = r.held n (omega arith) (omega arith) in let x = one_at t n e in omega arith)
            (λ ne. let y = r.past n (omega arith) in let x = none_at t n ne in omega arith);
        later = λ n l. let z = total_set (f n) views id v w at in let y = r.later n l in let x = none_at t n (λ e. omega arith) in omega arith;
        count = let z = total_set (λ u. length u.tickets) views id v w at in let y = r.count in omega arith;
        each = each_set TicketFits views id w r.each (omega arith);
      }

  pub passes_on : (slots : ℕ) (x : S) → entries x ≡ seen → o ≡ Some (base x)
      → Allows (Kept base entries caller b) slots id (turning o k t seen, (0, Some x) ∷ []) 1 (λ n. (n + 1) % 2 ^ 64) (PassesOn (turning o k t seen, (0, Some x) ∷ []))
  passes_on slots x all same s r deep at room =
      let v : View B E = turning o k t seen in
      let w : View B E = idle o k seen in
      let whole : seen ≡ r.history = (r.turn id v at refl).1 in
      let found : get_or s.words 1 0 ≡ r.served % 18446744073709551616 = ap (λ ws. get_or ws 1 0) r.words in
      let alone = turn_alone base entries caller b s r id t v at refl refl in
      let has : o ≡ Some b = r.based id v at (omega arith) in (
        w,
        gives,
        tt,
        record {
          served = r.served + 1;
          drawn = r.drawn;
          next = r.next;
          history = r.history;
          slot = some (Some x);
          words = ap (λ ws. set ws 1 ((get_or s.words 1 0 + 1) % 18446744073709551616)) r.words
              ∙ ap (λ n. r.drawn % 18446744073709551616 ∷ n ∷ length r.history ∷ r.next ∷ []) (ap (λ n. (n + 1) % 18446744073709551616) found ∙ mod-add-mod r.served 18446744073709551616 1);
          homes = ap (λ hs. set hs 0 (some (Some x))) r.homes;
          maker = maker_kept s.views id v w at r.next r.maker refl (λ _. refl) refl (λ e. cc);
          tickets = ticket_done r.served r.drawn s.views at (ticket_is_served base entries caller b s r id t v at refl refl) r.tickets;
          turn = each_but (HasTurn (r.served + 1) r.history) s.views id w (λ j u other there also. absurd (alone j u other there also)) (λ e. cc);
          based = each_set (HasBase b) s.views id w r.based (λ _. has);
          home = inl record {
            state = x;
            here = refl;
            same = cc;
            whole = all ∙ whole;
            free = each_but (λ u. u.has_turn ≡ false) s.views id w (λ j u other there. not_true u.has_turn (alone j u other there)) refl;
          };
          told = told_kept s.views id v w at caller r.next r.history r.told (r.told.seen id v at) (r.told.owns id v at) (r.told.to_give id v at) (r.told.joined id v at);
        },
        refl,
      )
