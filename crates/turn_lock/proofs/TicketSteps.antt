-- Drawing a ticket and looking at serving keep the rule.
use Rattle.std.proofs.Common.{◌≡◌, ◌≢◌, ℕ, suc, ◌+◌, ◌%◌, ◌^◌, ◌<◌, ◌≤◌, List, [], ◌∷◌, length, set, get_or, refl, sym, ap, ◌∙◌, subst, arith, inr, ⊎_elim, Option, Some, true≢false, append-nil}
use mathlib.Core.Option.{none, some, some-injective}
use mathlib.Core.Logic.{dite}
use mathlib.Core.List.{IsPrefix}
use native.Mathlib.Decide.{ℕ_discrete, dec_le}
use lib.ListN.{get_elem?}
use Rattle.std.proofs.Math.Nat.{mod-add-mod}
use Rattle.atomic_table.specs.Table.{State, keeps, takes, Allows}
use Rattle.atomic_table.proofs.Lists.{one_turn, set_again}
use Rattle.turn_lock.specs.declared.view.View.{View}
use Rattle.turn_lock.specs.Views.{times, own, names, idle, waiting, turning}
use Rattle.turn_lock.specs.Rule.{OneMaker, Ticketed, HasTurn, IsHome, IsOut, Kept}
use Rattle.turn_lock.specs.Steps.{DrawsTicket, LooksAtServing, Finds}
use Rattle.turn_lock.proofs.Totals.{total_set, total_two, total_at, total_le, one_at, none_at}
use Rattle.turn_lock.proofs.Parts.{TicketFits, HasBase, set_at, each_set, maker_kept, tickets_kept, told_kept, home_kept}

module _ {B E : Type 0} (o : Option B) (k : ℕ) (seen : List E) (id : ℕ) where
  ticket_drawn : (served drawn : ℕ) (views : List (View B E)) → get_elem? views id ≡ some (idle o k seen) → Ticketed served drawn views → Ticketed served (drawn + 1) (set views id (waiting o k drawn seen))
  ticket_drawn served drawn views at r =
      let v : View B E = idle o k seen in
      let w : View B E = waiting o k drawn seen in
      let f : ℕ → View B E → ℕ = λ t u. times t u.tickets in
      let c = r.count in
      record {
        held = λ t l h. let z = total_set (f t) views id v w at in dite (ℕ_discrete t drawn)
            (λ e. let y = r.later t (omega arith) in let x = one_at drawn t (sym e) in omega arith)
            (λ n. let y = r.held t l (omega arith) in let x = none_at drawn t (λ e. n (sym e)) in omega arith);
        past = λ t l. let z = total_set (f t) views id v w at in let y = r.past t l in let x = none_at drawn t (λ e. omega arith) in omega arith;
        later = λ t l. let z = total_set (f t) views id v w at in let y = r.later t (omega arith) in let x = none_at drawn t (λ e. omega arith) in omega arith;
        count = let z = total_set (λ u. length u.tickets) views id v w at in omega arith;
        each = each_set TicketFits views id w r.each (omega arith);
      }

  module _ {S : Type 0} (base : S → B) (entries : S → List E) (caller : E → ℕ) (b : B) where
    pub draws_ticket : (slots : ℕ) (c : List (ℕ × Option S)) → Allows (Kept base entries caller b) slots id (idle o k seen, c) 0 (λ n. (n + 1) % 2 ^ 64) (DrawsTicket (idle o k seen, c))
    draws_ticket slots c s r deep at room =
        let n : ℕ = get_or s.words 0 0 in
        let found : n ≡ r.drawn % 18446744073709551616 = ap (λ ws. get_or ws 0 0) r.words in
        let v : View B E = idle o k seen in
        let w : View B E = waiting o k r.drawn seen in (
          w,
          keeps,
          tt,
          record {
            served = r.served;
            drawn = r.drawn + 1;
            next = r.next;
            history = r.history;
            slot = r.slot;
            words = ap (λ ws. set ws 0 ((n + 1) % 18446744073709551616)) r.words ∙ ap (λ x. x ∷ r.served % 18446744073709551616 ∷ length r.history ∷ r.next ∷ []) (ap (λ x. (x + 1) % 18446744073709551616) found ∙ mod-add-mod r.drawn 18446744073709551616 1);
            homes = r.homes;
            maker = maker_kept s.views id v w at r.next r.maker refl (λ _. refl) refl (λ e. cc);
            tickets = ticket_drawn r.served r.drawn s.views at r.tickets;
            turn = each_set (HasTurn r.served r.history) s.views id w r.turn (λ e. cc);
            based = each_set (HasBase b) s.views id w r.based (λ _. r.based id v at (omega arith));
            home = home_kept s.views id v w at base entries b r.history r.slot refl r.home;
            told = told_kept s.views id v w at caller r.next r.history r.told (r.told.seen id v at) (r.told.owns id v at) (r.told.to_give id v at) (r.told.joined id v at);
          },
          (r.drawn, refl, found),
        )

module _ {B E : Type 0} (served drawn : ℕ) (views : List (View B E)) (id t : ℕ) (v : View B E) (at : get_elem? views id ≡ some v) (has : v.tickets ≡ t ∷ []) (r : Ticketed served drawn views) where
  -- a ticket that a seat holds is not served yet, and was drawn
  pub ticket_within : (served ≤ t) × (t < drawn)
  ticket_within =
      let here = total_at (λ (u : View B E). times t u.tickets) views id v at in
      let one : times t v.tickets ≡ 1 = ap (times t) has ∙ omega (arith, one_at t t refl) in
      dite (dec_le served t)
      (λ l. dite (dec_le (suc t) drawn) (λ h. (l, h)) (λ h. absurd (let z = r.later t (omega arith) in omega arith)))
      (λ l. absurd (let z = r.past t (omega arith) in omega arith))

  -- no other seat holds it
  pub ticket_alone : (j : ℕ) (u : View B E) → j ≢ id → get_elem? views j ≡ some u → u.tickets ≡ t ∷ [] → ⊥
  ticket_alone j u other there also =
      let two = total_two (λ (x : View B E). times t x.tickets) views id j v u at there other in
      let one : times t v.tickets ≡ 1 = ap (times t) has ∙ omega (arith, one_at t t refl) in
      let one' : times t u.tickets ≡ 1 = ap (times t) also ∙ omega (arith, one_at t t refl) in
      let all = r.held t ticket_within.0 ticket_within.1 in
      omega arith

-- the tickets that are out are fewer than the numbers
pub few_tickets : {B E : Type 0} (served drawn next : ℕ) (views : List (View B E)) → Ticketed served drawn views → OneMaker next views → drawn ≤ served + next
few_tickets {B} {E} served drawn next views r m =
    let le = total_le (λ (v : View B E). length v.tickets) names views (λ j v e. let h = r.each j v e in omega arith) in
    let c = r.count in let a = m.all in omega arith

module _ {S B E : Type 0} (base : S → B) (entries : S → List E) (caller : E → ℕ) (b : B) (o : Option B) (k t : ℕ) (seen : List E) (id : ℕ) (s : State (Option S) (View B E)) (r : Kept base entries caller b s) where
  module _ (at : get_elem? s.views id ≡ some (waiting o k t seen)) where
    -- the number that is found is that of the ticket exactly where the ticket is served
    is_served : r.served % 18446744073709551616 ≡ t % 18446744073709551616 → r.served ≡ t
    is_served e =
        let within = ticket_within r.served r.drawn s.views id t _ at refl r.tickets in
        let few = few_tickets r.served r.drawn r.next s.views r.tickets r.maker in
        let small = r.maker.small in
        one_turn r.served t 18446744073709551616 within.0 (omega arith) e

    -- where it is served, the slot is home
    slot_home : r.served ≡ t → IsHome base entries b r.history r.slot s.views
    slot_home e = ⊎_elim (λ h. h)
        (λ (u : IsOut base entries b r.history r.slot s.views). absurd (ticket_alone r.served r.drawn s.views id t _ at refl r.tickets u.seat u.view
        (λ same. let is : waiting o k t seen ≡ u.view = some-injective _ u.view (sym at ∙ (ap (get_elem? s.views) (sym same) ∙ u.at)) in true≢false (sym u.has ∙ ap (λ (v : View B E). v.has_turn) (sym is)))
        u.at ((r.turn u.seat u.view u.at u.has).0 ∙ ap (λ n. n ∷ []) e)))
        r.home

    stays : Kept base entries caller b record { words = set s.words 1 (get_or s.words 1 0); homes = s.homes; views = set s.views id (waiting o k t seen) }
    stays = subst (λ vs. Kept base entries caller b record { words = set s.words 1 (get_or s.words 1 0); homes = s.homes; views = vs }) (sym (set_again s.views id _ at)) record {
      served = r.served;
      drawn = r.drawn;
      next = r.next;
      history = r.history;
      slot = r.slot;
      words = ap (λ ws. set ws 1 (get_or s.words 1 0)) r.words ∙ ap (λ x. r.drawn % 18446744073709551616 ∷ x ∷ length r.history ∷ r.next ∷ []) (ap (λ ws. get_or ws 1 0) r.words);
      homes = r.homes;
      maker = r.maker;
      tickets = r.tickets;
      turn = r.turn;
      based = r.based;
      home = r.home;
      told = r.told;
    }

    takes_turn : r.served ≡ t → (h : IsHome base entries b r.history r.slot s.views)
        → Kept base entries caller b record { words = set s.words 1 (get_or s.words 1 0); homes = set s.homes 0 none; views = set s.views id (turning o k t (entries h.state)) }
    takes_turn e h =
        let v : View B E = waiting o k t seen in
        let w : View B E = turning o k t (entries h.state) in
        record {
          served = r.served;
          drawn = r.drawn;
          next = r.next;
          history = r.history;
          slot = none;
          words = ap (λ ws. set ws 1 (get_or s.words 1 0)) r.words ∙ ap (λ x. r.drawn % 18446744073709551616 ∷ x ∷ length r.history ∷ r.next ∷ []) (ap (λ ws. get_or ws 1 0) r.words);
          homes = ap (λ hs. set hs 0 none) r.homes;
          maker = maker_kept s.views id v w at r.next r.maker refl (λ _. refl) refl (λ e. cc);
          tickets = tickets_kept s.views id v w at r.served r.drawn r.tickets (λ _. refl) refl (r.tickets.each id v at);
          turn = each_set (HasTurn r.served r.history) s.views id w r.turn (λ _. (ap (λ n. n ∷ []) (sym e), h.whole));
          based = each_set (HasBase b) s.views id w r.based (λ _. r.based id v at (omega arith));
          home = inr record { seat = id; view = w; gone = refl; at = set_at s.views id v w at; has = refl };
          told = told_kept s.views id v w at caller r.next r.history r.told ([], append-nil (entries h.state) ∙ h.whole) (λ j _. ap (own caller j) (sym h.whole)) (r.told.to_give id v at) (r.told.joined id v at);
        }

    finds : (c : List (ℕ × Option S)) (h : IsHome base entries b r.history r.slot s.views)
        → Finds base entries caller (waiting o k t seen, c) h.state (turning o k t (entries h.state), (0, Some h.state) ∷ c)
    finds c h =
        let v : View B E = waiting o k t seen in
        (refl, r.based id v at (omega arith) ∙ ap (λ (x : B). Some x) (sym h.same), subst (IsPrefix seen) (sym h.whole) (r.told.seen id v at), λ j is. ap (own caller j) h.whole ∙ r.told.owns id v at j is)

module _ {S B E : Type 0} (base : S → B) (entries : S → List E) (caller : E → ℕ) (b : B) (o : Option B) (k t : ℕ) (seen : List E) (id : ℕ) where
  pub looks_at_serving : (slots : ℕ) (c : List (ℕ × Option S)) → Allows (Kept base entries caller b) slots id (waiting o k t seen, c) 1 (λ n. n) (LooksAtServing base entries caller (waiting o k t seen, c))
  looks_at_serving slots c s r deep at room =
      let found : get_or s.words 1 0 ≡ r.served % 18446744073709551616 = ap (λ ws. get_or ws 1 0) r.words in
      dite (ℕ_discrete r.served t)
      (λ e. let h = slot_home base entries caller b o k t seen id s r at e in (
        turning o k t (entries h.state),
        takes 0 (Some h.state),
        ap (λ hs. get_elem? hs 0) r.homes ∙ ap some h.here,
        takes_turn base entries caller b o k t seen id s r at e h,
        λ t' is. let same : t ≡ t' = cc in
            ((λ _. (h.state, finds base entries caller b o k t seen id s r at c h)), λ n. absurd (n (found ∙ ap (λ x. x % 18446744073709551616) (e ∙ same)))),
      ))
      (λ n. (
        waiting o k t seen,
        keeps,
        tt,
        stays base entries caller b o k t seen id s r at,
        λ t' is. let same : t ≡ t' = cc in
            ((λ hit. absurd (n (is_served base entries caller b o k t seen id s r at (sym found ∙ (hit ∙ ap (λ x. x % 18446744073709551616) (sym same)))))), λ _. refl),
      ))
