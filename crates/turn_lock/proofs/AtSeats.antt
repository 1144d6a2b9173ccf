-- Each step, at a seat that is known to be of the form that the step asks for.
use Rattle.std.proofs.Common.{◌≡◌, ℕ, ◌+◌, ◌%◌, ◌^◌, ◌<◌, List, [], ◌∷◌, ◌++◌, length, take, refl, sym, ap, ◌∙◌, subst, Option, Some, None, get_or, arith, le_refl}
use Rattle.atomic_table.specs.Table.{Me, Allows, Splits, Joins, rest}
use Rattle.turn_lock.specs.declared.view.View.{View}
use Rattle.turn_lock.specs.Views.{maker_seat, idle, waiting, turning, spent}
use Rattle.turn_lock.specs.Rule.{Kept}
use Rattle.turn_lock.specs.Steps.{DrawsNumber, DrawsTicket, LooksAtServing, CountsEntry, PassesOn, maker_left, new_seat, joined_by}
use Rattle.turn_lock.specs.Passes.{MadeBy}
use Rattle.turn_lock.specs.Seats.{HoldsEmpty, HasGiven}
use Rattle.turn_lock.specs.Joined.{HasJoined}
use Rattle.turn_lock.proofs.Entries.{entry_at}
use Rattle.turn_lock.proofs.NumberSteps.{draws_number, gives_number}
use Rattle.turn_lock.proofs.TicketSteps.{draws_ticket, looks_at_serving}
use Rattle.turn_lock.proofs.TurnSteps.{counts_entry, passes_on}
use Rattle.turn_lock.proofs.JoinSteps.{joins_seat}

module _ {S B E : Type 0} (base : S → B) (entries : S → List E) (caller : E → ℕ) (b : B) (id slots : ℕ) (m : Me (Option S) (View B E)) where
  pub draws_number_at : (o : Option B) (next : ℕ) (joined : List (ℕ × List E)) (seen : List E) (c : List (ℕ × Option S)) → m ≡ (maker_seat o next [] joined seen, c) → next + 1 < 4294967296
      → Allows (Kept base entries caller b) slots id m 3 (λ n. (n + 1) % 2 ^ 64) (DrawsNumber m)
  draws_number_at o next joined seen c is small = subst (λ x. Allows (Kept base entries caller b) slots id x 3 (λ n. (n + 1) % 2 ^ 64) (DrawsNumber x)) (sym is)
      (draws_number o next joined seen id base entries caller b slots c small)

  pub gives_number_at : (o : Option B) (next k : ℕ) (joined : List (ℕ × List E)) (seen : List E) (c : List (ℕ × Option S)) → m ≡ (maker_seat o next (k ∷ []) joined seen, c)
      → Splits (Kept base entries caller b) id m.0 (maker_left m.0) (new_seat m.0)
  gives_number_at o next k joined seen c is = subst (λ (x : Me (Option S) (View B E)). Splits (Kept base entries caller b) id x.0 (maker_left x.0) (new_seat x.0)) (sym is)
      (gives_number o next k joined seen id base entries caller b)

  pub draws_ticket_at : (o : Option B) (k : ℕ) (seen : List E) (c : List (ℕ × Option S)) → m ≡ (idle o k seen, c)
      → Allows (Kept base entries caller b) slots id m 0 (λ n. (n + 1) % 2 ^ 64) (DrawsTicket m)
  draws_ticket_at o k seen c is = subst (λ x. Allows (Kept base entries caller b) slots id x 0 (λ n. (n + 1) % 2 ^ 64) (DrawsTicket x)) (sym is)
      (draws_ticket o k seen id base entries caller b slots c)

  pub looks_at : (o : Option B) (k t : ℕ) (seen : List E) (c : List (ℕ × Option S)) → m ≡ (waiting o k t seen, c)
      → Allows (Kept base entries caller b) slots id m 1 (λ n. n) (LooksAtServing base entries caller m)
  looks_at o k t seen c is = subst (λ x. Allows (Kept base entries caller b) slots id x 1 (λ n. n) (LooksAtServing base entries caller x)) (sym is)
      (looks_at_serving base entries caller b o k t seen id slots c)

  pub counts_entry_at : (o : Option B) (k t : ℕ) (seen : List E) (c : List (ℕ × Option S)) (all : List E) (e : E) → m ≡ (turning o k t seen, c)
      → take (length seen + 1) all ≡ seen ++ e ∷ [] → caller e ≡ k → length seen + 1 < 18446744073709551616
      → Allows (Kept base entries caller b) slots id m 2 (λ n. (n + 1) % 2 ^ 64) (CountsEntry all m)
  counts_entry_at o k t seen c all e is next mine fits = subst (λ x. Allows (Kept base entries caller b) slots id x 2 (λ n. (n + 1) % 2 ^ 64) (CountsEntry all x)) (sym is)
      (counts_entry base entries caller b o k t seen id slots c all e next mine fits)

  pub passes_on_at : (o : Option B) (k t : ℕ) (seen : List E) (x : S) → m ≡ (turning o k t seen, (0, Some x) ∷ []) → entries x ≡ seen → o ≡ Some (base x)
      → Allows (Kept base entries caller b) slots id m 1 (λ n. (n + 1) % 2 ^ 64) (PassesOn m)
  passes_on_at o k t seen x is all same = subst (λ y. Allows (Kept base entries caller b) slots id y 1 (λ n. (n + 1) % 2 ^ 64) (PassesOn y)) (sym is)
      (passes_on base entries caller b o k t seen id slots x all same)

  pub joins_seat_at : (o : Option B) (next : ℕ) (joined : List (ℕ × List E)) (seen : List E) (c : List (ℕ × Option S)) → m ≡ (maker_seat o next [] joined seen, c)
      → (other : ℕ) (w : Me (Option S) (View B E)) (o' : Option B) (k : ℕ) (mine : List E) (d : List (ℕ × Option S)) → w ≡ (idle o' k mine, d)
      → Joins (Kept base entries caller b) id m.0 other w.0 (joined_by m.0 w.0) spent
  joins_seat_at o next joined seen c is other w o' k mine d be =
      subst (λ (x : Me (Option S) (View B E)). Joins (Kept base entries caller b) id x.0 other w.0 (joined_by x.0 w.0) spent) (sym is)
      (subst (λ (y : Me (Option S) (View B E)). Joins (Kept base entries caller b) id (maker_seat o next [] joined seen) other y.0 (joined_by (maker_seat o next [] joined seen) y.0) spent) (sym be)
      (joins_seat base entries caller b o next joined seen id o' k mine other))

-- the slot that was taken last, in the form that an exchange asks for
pub first_held : {A : Type 0} (held others : List (ℕ × A)) (k : ℕ) (x : A) → held ≡ (k, x) ∷ others → held ≡ (k, x) ∷ rest held
first_held held others k x e = e ∙ ap (λ l. (k, x) ∷ l) (sym (ap rest e))

module _ {S B E : Type 0} (base : S → B) (entries : S → List E) (caller : E → ℕ) (b : B) (id slots : ℕ) (m : Me (Option S) (View B E)) where
  next_at : (k : ℕ) (all : List E) → HoldsEmpty m k (take (length m.0.seen) all) → length m.0.seen < length all → MadeBy caller k (length m.0.seen) all → length all < 18446744073709551616
      → Allows (Kept base entries caller b) slots id m 2 (λ n. (n + 1) % 2 ^ 64) (CountsEntry all m)
  next_at k all is more made fits =
      let n : ℕ = length m.0.seen in
      let e = entry_at all n more in
      let here : length (take n all) ≡ n = ap (λ (x : Me (Option S) (View B E)). length x.0.seen) (sym is) in
      counts_entry_at base entries caller b id slots m m.0.base k (get_or m.0.tickets 0 0) (take n all) ((0, None) ∷ []) all e.0 is
      (ap (λ j. take (j + 1) all) here ∙ e.2) (made n e.0 (le_refl n) e.1) (omega arith)

  pub counts_next_at : (k : ℕ) (list all : List E) → list ≡ all → HoldsEmpty m k (take (length m.0.seen) all) → length m.0.seen < length all → MadeBy caller k (length m.0.seen) all → length all < 18446744073709551616
      → Allows (Kept base entries caller b) slots id m 2 (λ n. (n + 1) % 2 ^ 64) (CountsEntry list m)
  counts_next_at k list all same is more made fits = subst (λ l. Allows (Kept base entries caller b) slots id m 2 (λ n. (n + 1) % 2 ^ 64) (CountsEntry l m)) (sym same) (next_at k all is more made fits)

  -- the state is back in the slot of the seat
  pub passes_home_at : (k : ℕ) (x : S) (before : Me (Option S) (View B E)) → HoldsEmpty before k (entries x) → m ≡ (before.0, (0, Some x) ∷ rest before.1) → before.0.base ≡ Some (base x)
      → Allows (Kept base entries caller b) slots id m 1 (λ n. (n + 1) % 2 ^ 64) (PassesOn m)
  passes_home_at k x before is put same =
      let home : m ≡ (turning before.0.base k (get_or before.0.tickets 0 0) (entries x), (0, Some x) ∷ []) = put ∙ ap (λ (y : Me (Option S) (View B E)). (y.0, (0, Some x) ∷ rest y.1)) is in
      passes_on_at base entries caller b id slots m before.0.base k (get_or before.0.tickets 0 0) (entries x) x home refl same

module _ {S B E : Type 0} (m m' : Me (Option S) (View B E)) where
  -- the maker after its draw
  pub given_drawn : (n r : ℕ) → HasGiven m n → DrawsNumber m r m' → m' ≡ (maker_seat m.0.base (n + 1) (n ∷ []) [] [], [])
  given_drawn n r is drawn =
      let same : r ≡ n = drawn.1 ∙ ap (λ (x : Me (Option S) (View B E)). x.0.next) is in
      drawn.0 ∙ (ap (λ (x : Me (Option S) (View B E)). (record x.0 { next = r + 1; to_give = r ∷ [] }, x.1)) is ∙ ap (λ k. (maker_seat m.0.base (k + 1) (k ∷ []) [] [], [])) same)

  -- the maker after one more join
  pub joined_more : (n : ℕ) (p : ℕ × List E) → HasJoined m n m.0.joined → HasJoined m' m.0.next (p ∷ m.0.joined) → HasJoined m' n m'.0.joined × (m'.0.joined ≡ p ∷ m.0.joined)
  joined_more n p is now =
      let more : m'.0.joined ≡ p ∷ m.0.joined = ap (λ (x : Me (Option S) (View B E)). x.0.joined) now in
      let same : m.0.next ≡ n = ap (λ (x : Me (Option S) (View B E)). x.0.next) is in
      (now ∙ (ap (λ k. (maker_seat m'.0.base k [] (p ∷ m.0.joined) m'.0.seen, [])) same ∙ ap (λ js. (maker_seat m'.0.base n [] js m'.0.seen, [])) (sym more)), more)
