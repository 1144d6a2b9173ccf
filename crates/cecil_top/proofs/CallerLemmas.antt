-- What explains a caller still does so: with a longer history, and with an act more.
use Rattle.std.proofs.Common.{◌≡◌, ◌≢◌, refl, sym, ◌∙◌, ap, subst, ℕ, suc, ◌<◌, ◌≤◌, ◌⊎◌, inl, inr, Bool, List, [], ◌∷◌, ◌++◌, Some, cond, length, take, slice_get, append-nil, append_assoc, arith, eq-eqb, ne_eqb, ◌==◌, if◌then◌else◌}
use mathlib.Core.List.{IsPrefix}
use mathlib.Core.Logic.{dite}
use native.Mathlib.Decide.{dec_le}
use Rattle.std.proofs.lemmas.List.{length-take-le}
use Rattle.std.proofs.lemmas.Option.{slice_get_within}
use Rattle.turn_lock.specs.Views.{own}
use Rattle.node_model.specs.declared.edit.Edit.{Edit as EditOf}
use Rattle.node_model.specs.declared.entry.By.{By}
use Rattle.node_model.specs.declared.entry.Entry.{Entry}
use Rattle.lazy_core.specs.History.{edits, entry_caller}
use Rattle.shared_module.specs.Adds.{by_of}
use Rattle.shared_module.proofs.PrefixLemmas.{none_behind, not_longer, same_front, same_item}
use Rattle.cecil_top.specs.Acts.{Act, done_edits}
use Rattle.cecil_top.specs.Commands.{done_by, home_of, point_of}
use Rattle.cecil_top.specs.Explained.{ExplainsCaller, IsAnswerTo, IsSaid, StandsBy, entry_begun}
use Rattle.cecil_top.specs.inner.Steps.{IsStep}
use Rattle.cecil_top.proofs.AnswerLemmas.{answer_later, point_within, said_before, said_elsewhere, said_or_now}
use Rattle.cecil_top.proofs.PlaceLemmas.{front_item, last_item}

-- the edits of one act in a module
abbrev if_here : ℕ → Act → List EditOf
if_here m act = if home_of act.asked == m then done_by act.asked act.said else []

-- the edits that were done, with one act more
done_last : (m : ℕ) (acts : List Act) (last : Act) → done_edits m (acts ++ last ∷ []) ≡ done_edits m acts ++ if_here m last
done_last m [] last = append-nil (if_here m last)
done_last m (act ∷ acts) last =
    ap (λ l. if_here m act ++ l) (done_last m acts last) ∙ sym (append_assoc (if_here m act) (done_edits m acts) (if_here m last))

-- an entry stands where it stood when an act more is done
stands_still : (b : List ℕ) (m : ℕ) (acts : List Act) (last : Act) (before : List Entry) (e : Entry) → StandsBy b m acts before e
    → StandsBy b m (acts ++ last ∷ []) before e
stands_still b m acts last before e s =
    let within = slice_get_within acts s.place s.act s.of.told in
    record {
      place = s.place;
      act = s.act;
      of = record { told = front_item acts (last ∷ []) s.place within ∙ s.of.told; home = s.of.home };
      command = s.command;
      step = s.step;
      belongs = s.belongs;
      ends = s.ends;
      begins = λ n other less is. s.begins n other less (said_before m acts last n other (omega (arith, within, less)) is);
    }

module _ (b : List ℕ) (k m : ℕ) (acts : List Act) (s : List Entry) (p : ExplainsCaller b k m acts s) where
  -- the entry stood in the front of a history
  stood : (h : List Entry) → IsPrefix s h → (i : ℕ) (e : Entry) → i < length s → slice_get h i ≡ Some e → entry_caller e ≡ k → StandsBy b m acts (take i h) e
  stood h more i e less is mine =
      subst (λ g. StandsBy b m acts g e) (sym (same_front s h i more (omega arith))) (p.stands i e (sym (same_item s h i more less) ∙ is) mine)

  pub explains_longer : (h : List Entry) → IsPrefix s h → own entry_caller k h ≡ own entry_caller k s → ExplainsCaller b k m acts h
  explains_longer h more same = record {
    answers = λ n act is. answer_later b (by_of k act.command act.step) act.asked act.said s h more (p.answers n act is);
    rises = p.rises;
    stands = λ i e is mine. dite (dec_le (suc i) (length s))
        (λ less. stood h more i e (omega arith) is mine)
        (λ past. absurd (none_behind entry_caller k s h more same i e (omega arith) is mine));
    edited = ap edits same ∙ p.edited;
  }

  module _ (last : Act) where
    -- the act is of another module
    pub explains_elsewhere : home_of last.asked ≢ m → ExplainsCaller b k m (acts ++ last ∷ []) s
    explains_elsewhere other = record {
      answers = λ n act is. p.answers n act (old n act is);
      rises = λ n d act x less is so. p.rises n d act x less (old n act is) (old d x so);
      stands = λ i e is mine. stands_still b m acts last (take i s) e (p.stands i e is mine);
      edited = p.edited ∙ sym (done_last m acts last
          ∙ ap (λ (t : Bool). done_edits m acts ++ cond t (done_by last.asked last.said) []) (ne_eqb (home_of last.asked) m other)
          ∙ append-nil (done_edits m acts));
    }
      where
        old : (n : ℕ) (act : Act) → IsSaid m (acts ++ last ∷ []) n act → IsSaid m acts n act
        old = said_elsewhere m acts last other

    -- the act is of this module
    module _ (h : List Entry) (here : home_of last.asked ≡ m) (done : IsStep b (by_of k last.command last.step) last.asked last.said s h) where
      answers_now : (n : ℕ) (act : Act) → IsSaid m (acts ++ last ∷ []) n act → IsAnswerTo b (by_of k act.command act.step) act.asked act.said h
      answers_now n act is = by_place (said_or_now m acts last n act is)
        where
          by_place : IsSaid m acts n act ⊎ ((n ≡ length acts) × (last ≡ act)) → IsAnswerTo b (by_of k act.command act.step) act.asked act.said h
          by_place (inl before) = answer_later b (by_of k act.command act.step) act.asked act.said s h done.later (p.answers n act before)
          by_place (inr now) = subst (λ (x : Act). IsAnswerTo b (by_of k x.command x.step) x.asked x.said h) now.1 done.answer

      -- the point of an earlier answer lies in what was seen then
      point_seen : (n : ℕ) (act : Act) → IsSaid m acts n act → point_of act.said ≤ length s
      point_seen n act is = point_within b (by_of k act.command act.step) act.asked act.said s (p.answers n act is)

      rises_now : (n d : ℕ) (act x : Act) → n < d → IsSaid m (acts ++ last ∷ []) n act → IsSaid m (acts ++ last ∷ []) d x → point_of act.said ≤ point_of x.said
      rises_now n d act x less is so = by_place (said_or_now m acts last d x so)
        where
          by_place : IsSaid m acts d x ⊎ ((d ≡ length acts) × (last ≡ x)) → point_of act.said ≤ point_of x.said
          by_place (inl before) =
              let within = slice_get_within acts d x before.told in
              p.rises n d act x less (said_before m acts last n act (omega (arith, less, within)) is) before
          by_place (inr now) =
              let low = point_seen n act (said_before m acts last n act (omega (arith, less, now.0)) is) in
              let long = not_longer s h done.later in
              let end : point_of x.said ≡ length h = ap (λ (y : Act). point_of y.said) (sym now.1) ∙ done.point in
              omega (arith, low, long, end)

      stands_now : (i : ℕ) (e : Entry) → length s ≤ i → slice_get h i ≡ Some e → entry_caller e ≡ k → StandsBy b m (acts ++ last ∷ []) (take i h) e
      stands_now i e past is mine =
          let made = done.made i e past is mine in
          let within = slice_get_within h i e is in
          let long : length (take i h) ≡ i = length-take-le i h (omega arith) in
          let end = done.point in
          let begun = made.2 in
          record {
            place = length acts;
            act = last;
            of = record { told = last_item acts last; home = here };
            command = ap (λ (y : By). y.command) made.0;
            step = ap (λ (y : By). y.step) made.0;
            belongs = made.1;
            ends = omega (arith, end, long, within);
            begins = λ n x less so.
                let low = point_seen n x (said_before m acts last n x less so) in
                (omega (arith, low, long, past), subst (λ j. point_of x.said ≤ entry_begun j e) (sym long) (omega (arith, low, begun)));
          }

      pub explains_step : ExplainsCaller b k m (acts ++ last ∷ []) h
      explains_step = record {
        answers = answers_now;
        rises = rises_now;
        stands = λ i e is mine. dite (dec_le (suc i) (length s))
            (λ less. stands_still b m acts last (take i h) e (stood h done.later i e (omega arith) is mine))
            (λ past. stands_now i e (omega arith) is mine);
        edited = done.edited ∙ ap (λ l. l ++ done_by last.asked last.said) p.edited
            ∙ sym (done_last m acts last
            ∙ ap (λ (t : Bool). done_edits m acts ++ cond t (done_by last.asked last.said) []) (eq-eqb (home_of last.asked) m here));
      }

-- nothing explains that nothing was done
pub explains_none : (b : List ℕ) (k m : ℕ) → ExplainsCaller b k m [] []
explains_none b k m = record {
  answers = λ n act is. absurd (no_item n act is.told);
  rises = λ n d act x less is so. absurd (no_item n act is.told);
  stands = λ i e is mine. absurd cc;
  edited = refl;
}
  where
    no_item : (n : ℕ) (act : Act) → slice_get [] n ≡ Some act → ⊥
    no_item n act is = absurd cc
