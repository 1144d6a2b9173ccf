-- Joining a seat keeps the rule, and what is known once all seats are joined.
use Rattle.std.proofs.Common.{◌≡◌, ℕ, zero, suc, ◌+◌, Bool, true, false, cond, List, [], ◌∷◌, length, set, refl, sym, ap, ◌∙◌, subst, arith, Option, nat_le}
use mathlib.Core.Option.{some, some-injective, some-ne-none}
use mathlib.Core.List.{IsPrefix}
use lib.ListN.{get_elem?}
use Rattle.atomic_table.specs.Table.{Joins}
use Rattle.atomic_table.proofs.Lists.{set_else}
use Rattle.turn_lock.specs.declared.view.View.{View}
use Rattle.turn_lock.specs.Views.{total, times, own, named, names, making, maker_seat, idle, spent}
use Rattle.turn_lock.specs.Rule.{OneMaker, Ticketed, HasTurn, JoinedOf, Told, Kept}
use Rattle.turn_lock.specs.Steps.{longer}
use Rattle.turn_lock.proofs.Totals.{total_set}
use Rattle.turn_lock.proofs.Parts.{MakerKnows, TicketFits, HasBase, each_set, told_kept, home_kept}

prefix_either : {E : Type 0} (x : Bool) (xs ys h : List E) → IsPrefix xs h → IsPrefix ys h → IsPrefix (cond x ys xs) h
prefix_either true xs ys h a c = c
prefix_either false xs ys h a c = a

module _ {B E : Type 0} (o : Option B) (next : ℕ) (joined : List (ℕ × List E)) (seen : List E) (id : ℕ) (o' : Option B) (k : ℕ) (mine : List E) (other : ℕ) (apart : ¬ (other ≡ id)) (views : List (View B E))
    (at : get_elem? views id ≡ some (maker_seat o next [] joined seen)) (there : get_elem? (set views id (maker_seat o next [] ((k, mine) ∷ joined) (longer seen mine))) other ≡ some (idle o' k mine)) where
  abbrev both : View B E
  both = maker_seat o next [] ((k, mine) ∷ joined) (longer seen mine)

  before : get_elem? views other ≡ some (idle o' k mine)
  before = sym (set_else views id other both apart) ∙ there

  -- what both views counted, one counts
  same : (f : View B E → ℕ) → f both + f spent ≡ f (maker_seat o next [] joined seen) + f (idle o' k mine) → total f (set (set views id both) other spent) ≡ total f views
  same f e = let a = total_set f views id (maker_seat o next [] joined seen) both at in let c = total_set f (set views id both) other (idle o' k mine) spent there in omega arith

  maker_joined : (n : ℕ) → OneMaker n views → OneMaker n (set (set views id both) other spent)
  maker_joined n r = record {
    one = same making refl ∙ r.one;
    small = r.small;
    knows = each_set (MakerKnows n) (set views id both) other spent (each_set (MakerKnows n) views id both r.knows (r.knows id (maker_seat o next [] joined seen) at)) (λ e. cc);
    below = λ j l. same (named j) (omega arith) ∙ r.below j l;
    beyond = λ j l. same (named j) (omega arith) ∙ r.beyond j l;
    all = same names (omega arith) ∙ r.all;
  }

  tickets_joined : (served drawn : ℕ) → Ticketed served drawn views → Ticketed served drawn (set (set views id both) other spent)
  tickets_joined served drawn r = record {
    held = λ t l h. same (λ u. times t u.tickets) refl ∙ r.held t l h;
    past = λ t l. same (λ u. times t u.tickets) refl ∙ r.past t l;
    later = λ t l. same (λ u. times t u.tickets) refl ∙ r.later t l;
    count = ap (λ n. served + n) (same (λ u. length u.tickets) refl) ∙ r.count;
    each = each_set TicketFits (set views id both) other spent (each_set TicketFits views id both r.each (omega arith)) (omega arith);
  }

  joined_with : (caller : E → ℕ) (n : ℕ) (history : List E) → Told caller n history views → JoinedOf caller history both
  joined_with caller n history r zero j l e = let is : (k, mine) ≡ (j, l) = some-injective (k, mine) (j, l) e in
      subst (λ (p : ℕ × List E). IsPrefix p.1 history × (own caller p.0 history ≡ own caller p.0 p.1)) is (r.seen other (idle o' k mine) before, r.owns other (idle o' k mine) before k refl)
  joined_with caller n history r (suc i) j l e = r.joined id (maker_seat o next [] joined seen) at i j l e

  told_joined : (caller : E → ℕ) (n : ℕ) (history : List E) → Told caller n history views → Told caller n history (set (set views id both) other spent)
  told_joined caller n history r =
      let v : View B E = maker_seat o next [] joined seen in
      let w : View B E = idle o' k mine in
      told_kept (set views id both) other w spent there caller n history
      (told_kept views id v both at caller n history r (prefix_either (nat_le (length seen) (length mine)) seen mine history (r.seen id v at) (r.seen other w before)) (λ j e. cc) (λ j e. cc) (joined_with caller n history r))
      (history, refl) (λ j e. cc) (λ j e. cc) (λ i j l e. absurd (some-ne-none (j, l) (sym e)))

module _ {S B E : Type 0} (base : S → B) (entries : S → List E) (caller : E → ℕ) (b : B) where
  pub joins_seat : (o : Option B) (next : ℕ) (joined : List (ℕ × List E)) (seen : List E) (id : ℕ) (o' : Option B) (k : ℕ) (mine : List E) (other : ℕ)
      → Joins (Kept base entries caller b) id (maker_seat o next [] joined seen) other (idle o' k mine) (maker_seat o next [] ((k, mine) ∷ joined) (longer seen mine)) spent
  joins_seat o next joined seen id o' k mine other s r at apart there =
      let v : View B E = maker_seat o next [] joined seen in
      let u : View B E = maker_seat o next [] ((k, mine) ∷ joined) (longer seen mine) in
      let w : View B E = idle o' k mine in
      let vs : List (View B E) = set s.views id u in
      record {
        served = r.served;
        drawn = r.drawn;
        next = r.next;
        history = r.history;
        slot = r.slot;
        words = r.words;
        homes = r.homes;
        maker = maker_joined o next joined seen id o' k mine other apart s.views at there r.next r.maker;
        tickets = tickets_joined o next joined seen id o' k mine other apart s.views at there r.served r.drawn r.tickets;
        turn = each_set (HasTurn r.served r.history) vs other spent (each_set (HasTurn r.served r.history) s.views id u r.turn (λ e. cc)) (λ e. cc);
        based = each_set (HasBase b) vs other spent (each_set (HasBase b) s.views id u r.based (r.based id v at)) (λ h. absurd (omega arith));
        home = home_kept vs other w spent there base entries b r.history r.slot refl (home_kept s.views id v u at base entries b r.history r.slot refl r.home);
        told = told_joined o next joined seen id o' k mine other apart s.views at there caller r.next r.history r.told;
      }
