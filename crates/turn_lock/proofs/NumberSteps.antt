-- Drawing a number and giving it to a new seat keep the rule.
use Rattle.std.proofs.Common.{◌≡◌, ◌≢◌, ℕ, ◌+◌, ◌%◌, ◌^◌, ◌<◌, true, false, List, [], ◌∷◌, ◌++◌, length, set, get_or, refl, sym, ap, ◌∙◌, subst, arith, Option, Some, mod-eq_of_lt}
use mathlib.Core.Option.{some, some-ne-none}
use mathlib.Core.Logic.{dite}
use mathlib.Core.List.{IsPrefix}
use native.Mathlib.Decide.{ℕ_discrete}
use lib.ListN.{get_elem?}
use Rattle.atomic_table.specs.Table.{keeps, Allows, Splits}
use Rattle.turn_lock.specs.declared.view.View.{View}
use Rattle.turn_lock.specs.Views.{total, one_if, times, named, names, making, maker_seat, caller_seat}
use Rattle.turn_lock.specs.Rule.{OneMaker, Ticketed, HasTurn, OwnsOf, NoneToGive, JoinedOf, Told, Kept}
use Rattle.turn_lock.specs.Steps.{DrawsNumber}
use Rattle.turn_lock.proofs.Totals.{total_set, total_same, total_snoc, total_two, one_at, none_at}
use Rattle.turn_lock.proofs.Parts.{MakerKnows, TicketFits, HasBase, each_but, each_set, each_snoc, tickets_kept, told_kept, home_kept, home_longer}

module _ {B E : Type 0} (next : ℕ) (views : List (View B E)) (id : ℕ) (v : View B E) (at : get_elem? views id ≡ some v) (r : OneMaker next views) where
  -- no other seat is the maker
  pub maker_alone : v.is_maker ≡ true → (j : ℕ) (u : View B E) → j ≢ id → get_elem? views j ≡ some u → u.is_maker ≡ true → ⊥
  maker_alone is j u other there also =
      let two = total_two making views id j v u at there other in let one = r.one in
      let a : making v ≡ 1 = ap one_if is in let c : making u ≡ 1 = ap one_if also in omega arith

module _ {B E : Type 0} (o : Option B) (next : ℕ) (joined : List (ℕ × List E)) (seen : List E) (id : ℕ) where
  -- one more number is drawn, and is the maker's to give
  number_drawn : (n : ℕ) (views : List (View B E)) → get_elem? views id ≡ some (maker_seat o next [] joined seen) → OneMaker n views → next ≡ n → n + 1 < 4294967296 → OneMaker (n + 1) (set views id (maker_seat o (n + 1) (n ∷ []) joined seen))
  number_drawn n views at r is small =
      let v : View B E = maker_seat o next [] joined seen in let w : View B E = maker_seat o (n + 1) (n ∷ []) joined seen in record {
        one = total_same making views id v w at refl ∙ r.one;
        small = small;
        knows = each_but (MakerKnows (n + 1)) views id w (λ j u other there also. absurd (maker_alone n views id v at r refl j u other there also)) (λ _. (refl, refl, refl, refl, omega arith));
        below = λ k l. let h = total_set (named k) views id v w at in dite (ℕ_discrete k n)
            (λ e. let z = r.beyond k (omega arith) in let o1 = one_at n k (sym e) in omega arith)
            (λ ne. let z = r.below k (omega arith) in let o0 = none_at n k (λ e. ne (sym e)) in omega arith);
        beyond = λ k l. let h = total_set (named k) views id v w at in let z = r.beyond k (omega arith) in let o0 = none_at n k (λ e. omega arith) in omega arith;
        all = let h = total_set names views id v w at in let z = r.all in omega arith;
      }

  told_drawn : (caller : E → ℕ) (n : ℕ) (history : List E) (views : List (View B E)) → get_elem? views id ≡ some (maker_seat o next [] joined seen) → Told caller n history views
      → Told caller (n + 1) history (set views id (maker_seat o (n + 1) (n ∷ []) joined seen))
  told_drawn caller n history views at r =
      let kept = told_kept views id (maker_seat o next [] joined seen) (maker_seat o (n + 1) (n ∷ []) joined seen) at caller n history r (r.seen id _ at) (λ k e. cc) (λ k e. r.none_beyond k (let is : n ≡ k = cc in omega arith)) (r.joined id _ at) in
      record { seen = kept.seen; owns = kept.owns; to_give = kept.to_give; joined = kept.joined; none_beyond = λ k l. r.none_beyond k (omega arith) }

  module _ {S : Type 0} (base : S → B) (entries : S → List E) (caller : E → ℕ) (b : B) where
    pub draws_number : (slots : ℕ) (c : List (ℕ × Option S)) → next + 1 < 4294967296
        → Allows (Kept base entries caller b) slots id (maker_seat o next [] joined seen, c) 3 (λ n. (n + 1) % 2 ^ 64) (DrawsNumber (maker_seat o next [] joined seen, c))
    draws_number slots c small s r deep at room =
        let n : ℕ = get_or s.words 3 0 in
        let found : n ≡ r.next = ap (λ ws. get_or ws 3 0) r.words in
        let mine : next ≡ r.next = (r.maker.knows id _ at refl).0 in
        let v : View B E = maker_seat o next [] joined seen in
        let w : View B E = maker_seat o (n + 1) (n ∷ []) joined seen in (
          w,
          keeps,
          tt,
          record {
            served = r.served;
            drawn = r.drawn;
            next = n + 1;
            history = r.history;
            slot = r.slot;
            words = ap (λ ws. set ws 3 ((n + 1) % 18446744073709551616)) r.words ∙ ap (λ k. r.drawn % 18446744073709551616 ∷ r.served % 18446744073709551616 ∷ length r.history ∷ k ∷ []) (mod-eq_of_lt (omega arith));
            homes = r.homes;
            maker = number_drawn n s.views at (subst (λ k. OneMaker k s.views) (sym found) r.maker) (mine ∙ sym found) (omega arith);
            tickets = tickets_kept s.views id v w at r.served r.drawn r.tickets (λ t. refl) refl (omega arith);
            turn = each_set (HasTurn r.served r.history) s.views id w r.turn (λ e. cc);
            based = each_set (HasBase b) s.views id w r.based (λ _. r.based id v at (omega arith));
            home = home_kept s.views id v w at base entries b r.history r.slot refl r.home;
            told = told_drawn caller n r.history s.views at (subst (λ k. Told caller k r.history s.views) (sym found) r.told);
          },
          (refl, found ∙ sym mine),
        )

module _ {B E : Type 0} (o : Option B) (next : ℕ) (k : ℕ) (joined : List (ℕ × List E)) (seen : List E) (id : ℕ) where
  -- the number is the new seat's
  number_given : (n : ℕ) (views : List (View B E)) → get_elem? views id ≡ some (maker_seat o next (k ∷ []) joined seen) → OneMaker n views
      → OneMaker n (set views id (maker_seat o next [] joined seen) ++ caller_seat o (k ∷ []) [] false [] ∷ [])
  number_given n views at r =
      let v : View B E = maker_seat o next (k ∷ []) joined seen in
      let w : View B E = maker_seat o next [] joined seen in
      let y : View B E = caller_seat o (k ∷ []) [] false [] in
      let same : (f : View B E → ℕ) → f w + f y ≡ f v → total f (set views id w ++ y ∷ []) ≡ total f views = λ f e. let h = total_set f views id v w at in let g = total_snoc f (set views id w) y in omega arith in
      record {
        one = same making refl ∙ r.one;
        small = r.small;
        knows = each_snoc (MakerKnows n) (set views id w) y (each_set (MakerKnows n) views id w r.knows (λ e. let h = r.knows id v at e in (h.0, refl, refl, refl, omega arith))) (λ e. cc);
        below = λ j l. same (named j) (omega arith) ∙ r.below j l;
        beyond = λ j l. same (named j) (omega arith) ∙ r.beyond j l;
        all = same names (omega arith) ∙ r.all;
      }

  tickets_longer : (served drawn : ℕ) (views : List (View B E)) → get_elem? views id ≡ some (maker_seat o next (k ∷ []) joined seen) → Ticketed served drawn views
      → Ticketed served drawn (set views id (maker_seat o next [] joined seen) ++ caller_seat o (k ∷ []) [] false [] ∷ [])
  tickets_longer served drawn views at r =
      let v : View B E = maker_seat o next (k ∷ []) joined seen in
      let w : View B E = maker_seat o next [] joined seen in
      let y : View B E = caller_seat o (k ∷ []) [] false [] in
      let same : (f : View B E → ℕ) → f w ≡ f v → f y ≡ 0 → total f (set views id w ++ y ∷ []) ≡ total f views = λ f e z. let h = total_set f views id v w at in let g = total_snoc f (set views id w) y in omega arith in
      record {
        held = λ t l h. same (λ u. times t u.tickets) refl refl ∙ r.held t l h;
        past = λ t l. same (λ u. times t u.tickets) refl refl ∙ r.past t l;
        later = λ t l. same (λ u. times t u.tickets) refl refl ∙ r.later t l;
        count = ap (λ n. served + n) (same (λ u. length u.tickets) refl refl) ∙ r.count;
        each = each_snoc TicketFits (set views id w) y (each_set TicketFits views id w r.each (omega arith)) (omega arith);
      }

  told_longer : (caller : E → ℕ) (n : ℕ) (history : List E) (views : List (View B E)) → get_elem? views id ≡ some (maker_seat o next (k ∷ []) joined seen) → Told caller n history views
      → Told caller n history (set views id (maker_seat o next [] joined seen) ++ caller_seat o (k ∷ []) [] false [] ∷ [])
  told_longer caller n history views at r =
      let v : View B E = maker_seat o next (k ∷ []) joined seen in
      let w : View B E = maker_seat o next [] joined seen in
      let y : View B E = caller_seat o (k ∷ []) [] false [] in
      let kept = told_kept views id v w at caller n history r (r.seen id v at) (λ j e. cc) (λ j e. cc) (r.joined id v at) in
      record {
        seen = each_snoc (λ u. IsPrefix u.seen history) (set views id w) y kept.seen (history, refl);
        owns = each_snoc (OwnsOf caller history) (set views id w) y kept.owns (λ j e. r.to_give id v at j e);
        to_give = each_snoc (NoneToGive caller history) (set views id w) y kept.to_give (λ j e. cc);
        joined = each_snoc (JoinedOf caller history) (set views id w) y kept.joined (λ i j l e. absurd (some-ne-none (j, l) (sym e)));
        none_beyond = r.none_beyond;
      }

  module _ {S : Type 0} (base : S → B) (entries : S → List E) (caller : E → ℕ) (b : B) where
    pub gives_number : Splits (Kept base entries caller b) id (maker_seat o next (k ∷ []) joined seen) (maker_seat o next [] joined seen) (caller_seat o (k ∷ []) [] false [])
    gives_number s r at =
        let v : View B E = maker_seat o next (k ∷ []) joined seen in
        let w : View B E = maker_seat o next [] joined seen in
        let y : View B E = caller_seat o (k ∷ []) [] false [] in
        let has : o ≡ Some b = r.based id v at (omega arith) in
        record {
          served = r.served;
          drawn = r.drawn;
          next = r.next;
          history = r.history;
          slot = r.slot;
          words = r.words;
          homes = r.homes;
          maker = number_given r.next s.views at r.maker;
          tickets = tickets_longer r.served r.drawn s.views at r.tickets;
          turn = each_snoc (HasTurn r.served r.history) (set s.views id w) y (each_set (HasTurn r.served r.history) s.views id w r.turn (λ e. cc)) (λ e. cc);
          based = each_snoc (HasBase b) (set s.views id w) y (each_set (HasBase b) s.views id w r.based (λ _. has)) (λ _. has);
          home = home_longer (set s.views id w) y base entries b r.history r.slot refl (home_kept s.views id v w at base entries b r.history r.slot refl r.home);
          told = told_longer caller r.next r.history s.views at r.told;
        }
