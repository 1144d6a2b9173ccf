-- One command adds a step: from what a shared module says of a query and of an edit.
use Rattle.std.proofs.Common.{◌≡◌, refl, sym, ◌∙◌, ap, subst, ℕ, suc, ◌+◌, ◌≤◌, Bool, true, false, List, [], ◌∷◌, ◌++◌, Some, cond, eqb, eqb-true, eq-eqb, length, take, slice_get, append-nil, arith, ◌==◌}
use mathlib.Core.List.{IsPrefix}
use mathlib.Core.Logic.{dite}
use native.Mathlib.Decide.{dec_le}
use Rattle.std.proofs.Math.Seq.{take-length}
use Rattle.std.proofs.lemmas.List.Elements.{filter-append}
use Rattle.graph_edits.specs.declared.applied.Outcome.{Outcome}
use Rattle.graph_edits.specs.declared.applied.Outcome.TheVariants.{Done, Refused}
use Rattle.turn_lock.specs.Views.{own}
use Rattle.job_text.specs.declared.command.Command.{Command}
use Rattle.job_text.specs.declared.command.Command.TheVariants as commands
use Rattle.node_model.specs.declared.edit.Edit.{Edit as EditOf}
use Rattle.node_model.specs.declared.entry.By.{By}
use Rattle.node_model.specs.declared.entry.Entry.{Entry}
use Rattle.node_model.specs.declared.entry.Entry.TheVariants.{Fill, Edit}
use Rattle.node_model.specs.declared.entry.Why.{Why}
use Rattle.node_model.specs.declared.query.Query.{Query}
use Rattle.lazy_core.specs.History.{edits, entry_caller}
use Rattle.lazy_core.proofs.HistoryLemmas.{edits-append}
use Rattle.shared_module.specs.Adds.{AddsFills, IsFillFor, IsForEdit, IsForQuery}
use Rattle.shared_module.specs.Answers.{IsAnswer, IsEdited, LastIsDone, answered_by, but_last}
use Rattle.shared_module.specs.declared.ask.Answer.{Answer}
use Rattle.shared_module.specs.declared.edit.Edited.{Edited}
use Rattle.shared_module.proofs.PrefixLemmas.{begins_further, one_behind, same_front, same_item}
use Rattle.cecil_top.specs.Commands.{if_done}
use Rattle.cecil_top.specs.Explained.{IsEntryOf, IsReasonOf, entry_begun, entry_by}
use Rattle.cecil_top.specs.declared.said.Said.TheVariants as saids
use Rattle.cecil_top.specs.inner.Steps.{IsStep}
use Rattle.cecil_top.proofs.PlaceLemmas.{item_behind}

abbrev IsFill : Entry → Type 0
IsFill (Fill by point why key) = Unit {0}
IsFill (Edit by es) = ⊥

-- what is known of a new entry of a command
abbrev IsAdded : List ℕ → By → Command → ℕ → ℕ → List Entry → Entry → Type 0
IsAdded b by command from i before e = (entry_by e ≡ by) × IsEntryOf b command before e × (from ≤ entry_begun i e)

fill_is_added : (b : List ℕ) (by : By) (command : Command) (W : List Entry → Why → Type 0) → ((h : List Entry) (why : Why) → W h why → IsReasonOf b command h why)
    → (from i : ℕ) (before : List Entry) (e : Entry) → IsFillFor by from W before e → IsAdded b by command from i before e
fill_is_added b by command W so from i before (Fill other point why key) f = (f.0, so (take point before) why f.2, f.1)
fill_is_added b by command W so from i before (Edit other es) f = absurd f

is_fill : (by : By) (W : List Entry → Why → Type 0) (from : ℕ) (before : List Entry) (e : Entry) → IsFillFor by from W before e → IsFill e
is_fill by W from before (Fill other point why key) f = tt
is_fill by W from before (Edit other es) f = absurd f

-- a caller whose entries are fills has no edits
no_edits : (k : ℕ) (t : List Entry) → ((i : ℕ) (e : Entry) → slice_get t i ≡ Some e → entry_caller e ≡ k → IsFill e) → edits (own entry_caller k t) ≡ []
no_edits k [] all = refl
no_edits k (x ∷ t) all = by_first x (eqb (entry_caller x) k) (λ is. all 0 x refl (eqb-true (entry_caller x) k is)) (no_edits k t (λ i e. all (suc i) e))
  where
    by_first : (x : Entry) (mine : Bool) → (mine ≡ true → IsFill x) → edits (own entry_caller k t) ≡ []
        → edits (cond mine (x ∷ own entry_caller k t) (own entry_caller k t)) ≡ []
    by_first (Fill by point why key) true fill rest = rest
    by_first (Edit by es) true fill rest = absurd (fill refl)
    by_first x false fill rest = rest

module _ (by : By) (W : List Entry → Why → Type 0) (s h : List Entry) (adds : AddsFills by W s h) where
  added_is_fill : (i : ℕ) (e : Entry) → slice_get adds.later.0 i ≡ Some e → entry_caller e ≡ by.caller → IsFill e
  added_is_fill i e is mine =
      let there = ap (λ l. slice_get l (length s + i)) (sym adds.later.1) ∙ item_behind s adds.later.0 i ∙ is in
      is_fill by W (length s) (take (length s + i) h) e (adds.own (length s + i) e (omega arith) there mine)

  fills_no_edits : edits (own entry_caller by.caller h) ≡ edits (own entry_caller by.caller s)
  fills_no_edits =
      ap (λ l. edits (own entry_caller by.caller l)) (sym adds.later.1)
      ∙ ap edits (filter-append (λ (x : Entry). entry_caller x == by.caller) s adds.later.0)
      ∙ edits-append (own entry_caller by.caller s) (own entry_caller by.caller adds.later.0)
      ∙ ap (λ l. edits (own entry_caller by.caller s) ++ l) (no_edits by.caller adds.later.0 added_is_fill)
      ∙ append-nil (edits (own entry_caller by.caller s))

-- the edits of a caller, with one that is done
edits_with_last : (by : By) (f : List Entry) (e : EditOf) → edits (own entry_caller by.caller (f ++ Edit by (e ∷ []) ∷ [])) ≡ edits (own entry_caller by.caller f) ++ e ∷ []
edits_with_last by f e =
    let last : Entry = Edit by (e ∷ []) in
    ap edits (filter-append (λ (x : Entry). entry_caller x == by.caller) f (last ∷ [])
    ∙ ap (λ t. own entry_caller by.caller f ++ cond t (last ∷ []) []) (eq-eqb by.caller by.caller refl))
    ∙ edits-append (own entry_caller by.caller f) (last ∷ [])

pub step_asked : (b : List ℕ) (by : By) (m : ℕ) (q : Query) (a : Answer) (s h : List Entry) → AddsFills by (IsForQuery q) s h → IsAnswer b q h a
    → IsStep b by (commands.Query m q) (saids.Query a) s h
step_asked b by m q a s h adds is =
    let whole = ap (λ n. take n h) is.at ∙ take-length h in
    record {
      later = adds.later;
      made = λ i e past at mine.
          fill_is_added b by (commands.Query m q) (IsForQuery q) (λ g why w. w) (length s) i (take i h) e (adds.own i e past at mine);
      point = is.at;
      answer = subst (λ g. IsAnswer b q g a) (sym whole) is;
      edited = fills_no_edits by (IsForQuery q) s h adds ∙ sym (append-nil (edits (own entry_caller by.caller s)));
    }

-- what an edit adds, whether it is done or refused
record AddsEdit (b : List ℕ) (by : By) (m : ℕ) (e : EditOf) (s h : List Entry) (o : Outcome) : Type 0 where
  pub later : IsPrefix s h
  pub made : (i : ℕ) (x : Entry) → length s ≤ i → slice_get h i ≡ Some x → entry_caller x ≡ by.caller
      → IsAdded b by (commands.Edit m e) (length s) i (take i h) x
  pub edited : edits (own entry_caller by.caller h) ≡ edits (own entry_caller by.caller s) ++ if_done e o

module _ (b : List ℕ) (by : By) (m : ℕ) (e : EditOf) (s h : List Entry) where
  fill_of_edit : (g : List Entry) (i : ℕ) (x : Entry) → IsFillFor by (length s) (IsForEdit b e) (take i g) x → IsAdded b by (commands.Edit m e) (length s) i (take i g) x
  fill_of_edit g i x f = fill_is_added b by (commands.Edit m e) (IsForEdit b e) (λ t why w. w) (length s) i (take i g) x f

  adds_edit : (o : Outcome) → AddsFills by (IsForEdit b e) s (answered_by h o) → LastIsDone by e h o → AddsEdit b by m e s h o
  adds_edit (Refused r) adds last = record {
    later = adds.later;
    made = λ i x past at mine. fill_of_edit h i x (adds.own i x past at mine);
    edited = fills_no_edits by (IsForEdit b e) s h adds ∙ sym (append-nil (edits (own entry_caller by.caller s)));
  }
  adds_edit (Done made) adds last = record {
    later = begins_further s f h adds.later more;
    made = λ i x past at mine. dite (dec_le (suc i) (length f))
        (λ less.
        subst (λ g. IsAdded b by (commands.Edit m e) (length s) i g x) (sym (same_front f h i more (omega arith)))
        (fill_of_edit f i x (adds.own i x past (sym (same_item f h i more (omega arith)) ∙ at) mine)))
        (λ over.
        let is = one_behind f (Edit by (e ∷ [])) x i (omega arith) (ap (λ l. slice_get l i) (sym last) ∙ at) in
        subst (λ y. IsAdded b by (commands.Edit m e) (length s) i (take i h) y) (sym is.0) (refl, refl, past));
    edited = ap (λ l. edits (own entry_caller by.caller l)) last ∙ edits_with_last by f e
        ∙ ap (λ l. l ++ e ∷ []) (fills_no_edits by (IsForEdit b e) s f adds);
  }
    where
      f : List Entry
      f = but_last h

      more : IsPrefix f h
      more = (Edit by (e ∷ []) ∷ [], sym last)

  pub step_edited : (x : Edited) → AddsFills by (IsForEdit b e) s (answered_by h x.outcome) → LastIsDone by e h x.outcome → IsEdited b e h x
      → IsStep b by (commands.Edit m e) (saids.Edit x) s h
  step_edited x adds last is =
      let whole = ap (λ n. take n h) is.at ∙ take-length h in
      let parts = adds_edit x.outcome adds last in
      record {
        later = parts.later;
        made = parts.made;
        point = is.at;
        answer = subst (λ g. IsEdited b e g x × LastIsDone by e g x.outcome) (sym whole) (is, last);
        edited = parts.edited;
      }
