-- What is said to an edit, and what follows.
use Rattle.std.proofs.Common.{◌≡◌, refl, sym, ◌∙◌, ap, subst, ℕ, ◌-◌, Bool, true, false, List, [], ◌∷◌, ◌++◌, length, cond, find, append-nil, arith, ◌&&◌}
use Rattle.std.specs.Prelude.{Option, Some, None, Result, Ok, Err, is_some, not, if◌then◌else◌}
use Rattle.std.specs.List.{list_all}
use Rattle.std.specs.Result.{is_ok}
use Rattle.std.proofs.lemmas.Option.{slice_get-get_or}
use Rattle.cil_base.specs.Token.{Token}
use Rattle.node_model.specs.EditAnswers.{edit_answer, edit_reach, edits_reach, keys_but}
use Rattle.node_model.specs.declared.edit.Edit.{Edit}
use Rattle.node_model.specs.declared.edit_refusal.EditRefusal.{EditRefusal}
use Rattle.node_model.specs.declared.entry.Entry.{Entry}
use Rattle.node_model.specs.declared.key.Key.{Key}
use Rattle.graph_edits.proofs.MeetLemmas.{meets}
use Rattle.graph_edits.specs.Applying.{applied}
use Rattle.graph_edits.specs.Graphs.{nodes_in, slots_in}
use Rattle.graph_edits.specs.Stands.{answer_given, is_lacking, need_or, up_to}
use Rattle.graph_edits.specs.declared.applied.Applied.{Applied}
use Rattle.graph_edits.specs.declared.applied.Applied.TheVariants as applieds
use Rattle.graph_edits.specs.declared.graph.EditGraph.{EditGraph}
use Rattle.lazy_core.specs.History.{edits, filled, graph_after}
use Rattle.lazy_core.specs.Legal.{MayEdit}
use Rattle.lazy_core.specs.Slots.{Holds}
use Rattle.lazy_core.specs.Steps.{NeedHasALast, last_key, tried, tried_answer, try_at, up_to_unfilled}
use Rattle.lazy_core.specs.declared.wanted.Tried.{Tried}
use Rattle.lazy_core.specs.declared.wanted.Tried.TheVariants.{Done, Refused, Need}
use Rattle.lazy_core.proofs.HoldsLemmas.{slot_after_some, stands}

-- the first key that an edit looks at and that is not filled
abbrev pub first_unfilled : List ℕ → List Entry → List Key → Option Key
first_unfilled b h ks = find (λ k. not (filled b h k)) ks

pub tried_by : (b : List ℕ) (h : List Entry) (e : Edit) (o : Option Key) → first_unfilled b h (edit_reach (graph_after b h) e) ≡ o
    → tried b h e ≡ try_at (up_to_unfilled b h (edit_reach (graph_after b h) e)) (edit_answer (graph_after b h) e) o
unfolding tried
tried_by b h e o is = ap (try_at (up_to_unfilled b h (edit_reach (graph_after b h) e)) (edit_answer (graph_after b h) e)) is

last_of_some : (k : Key) (ks : List Key) → is_some (last_key (k ∷ ks)) ≡ true
last_of_some k ks = ap is_some (slice_get-get_or (k ∷ ks) (length (k ∷ ks) - 1) k (omega arith))

some_last : (b : List ℕ) (h : List Entry) (ks : List Key) (k : Key) → first_unfilled b h ks ≡ Some k → is_some (last_key (up_to_unfilled b h ks)) ≡ true
some_last b h [] k e = absurd cc
some_last b h (j ∷ ks) k e = last_of_some j (if filled b h j then up_to_unfilled b h ks else [])

answer_is_no_need : (a : Result (Option Token) EditRefusal) (ks : List Key) → tried_answer a ≡ Need ks → is_some (last_key ks) ≡ true
answer_is_no_need (Ok made) ks e = absurd cc
answer_is_no_need (Err r) ks e = absurd cc

pub need_has_last : NeedHasALast
need_has_last b h e ks need = by_first (first_unfilled b h (edit_reach (graph_after b h) e)) refl
  where
    by_first : (o : Option Key) → first_unfilled b h (edit_reach (graph_after b h) e) ≡ o → is_some (last_key ks) ≡ true
    by_first None is = answer_is_no_need (edit_answer (graph_after b h) e) ks (sym (tried_by b h e None is) ∙ need)
    by_first (Some k) is =
        let same : Need (up_to_unfilled b h (edit_reach (graph_after b h) e)) ≡ Need ks = sym (tried_by b h e (Some k) is) ∙ need in
        let keys : up_to_unfilled b h (edit_reach (graph_after b h) e) ≡ ks = cc in
        subst (λ js. is_some (last_key js) ≡ true) keys (some_last b h (edit_reach (graph_after b h) e) k is)

pub all_filled : (b : List ℕ) (h : List Entry) (ks : List Key) → first_unfilled b h ks ≡ None → list_all (filled b h) ks ≡ true
all_filled b h [] e = refl
all_filled b h (k ∷ ks) e = by_filled (filled b h k) (all_filled b h ks) e
  where
    by_filled : (x : Bool) → (first_unfilled b h ks ≡ None → list_all (filled b h) ks ≡ true)
        → cond (not x) (Some k) (first_unfilled b h ks) ≡ None → (x && list_all (filled b h) ks) ≡ true
    by_filled true rest e = rest e
    by_filled false rest e = absurd cc

no_keys : (a : Result (Option Token) EditRefusal) → keys_but a [] ≡ []
no_keys (Ok (Some t)) = refl
no_keys (Ok None) = refl
no_keys (Err r) = refl

-- an edit alone reaches what it reaches together with no other
alone : (b : List ℕ) (h : List Entry) (e : Edit) → edits_reach (graph_after b h) (e ∷ []) ≡ edit_reach (graph_after b h) e
unfolding edits_reach
alone b h e = ap (λ ks. edit_reach (graph_after b h) e ++ ks) (no_keys (edit_answer (graph_after b h) e)) ∙ append-nil (edit_reach (graph_after b h) e)

done_is_ok : (a : Result (Option Token) EditRefusal) (made : Option Token) → tried_answer a ≡ Done made → (is_ok a && true) ≡ true
done_is_ok (Ok t) made e = refl
done_is_ok (Err r) made e = absurd cc

-- an edit that is done may follow
pub may_edit : (b : List ℕ) (h : List Entry) (e : Edit) (made : Option Token) → tried b h e ≡ Done made → MayEdit b h (e ∷ [])
may_edit b h e made done = by_first (first_unfilled b h (edit_reach (graph_after b h) e)) refl
  where
    by_first : (o : Option Key) → first_unfilled b h (edit_reach (graph_after b h) e) ≡ o → MayEdit b h (e ∷ [])
    by_first (Some k) is =
        let need : Need (up_to_unfilled b h (edit_reach (graph_after b h) e)) ≡ Done made = sym (tried_by b h e (Some k) is) ∙ done in
        absurd cc
    by_first None is = record {
      some = λ none. absurd cc;
      done = done_is_ok (edit_answer (graph_after b h) e) made (sym (tried_by b h e None is) ∙ done);
      reached = ap (list_all (filled b h)) (alone b h e) ∙ all_filled b h (edit_reach (graph_after b h) e) is;
    }

-- what is said of the answer by the slots
abbrev pub tried_of : Applied → Tried
tried_of (applieds.Done made) = Done made
tried_of (applieds.Refused r) = Refused r
tried_of (applieds.Need ks) = Need ks

pub up_to_is : (b : List ℕ) (h : List Entry) (ks : List Key) → up_to (λ k. not (filled b h k)) ks ≡ up_to_unfilled b h ks
up_to_is b h [] = refl
up_to_is b h (k ∷ ks) = ap (λ js. k ∷ js) (by_filled (filled b h k) (up_to_is b h ks))
  where
    by_filled : (x : Bool) → up_to (λ k. not (filled b h k)) ks ≡ up_to_unfilled b h ks
        → (if not x then [] else up_to (λ k. not (filled b h k)) ks) ≡ (if x then up_to_unfilled b h ks else [])
    by_filled true rest = rest
    by_filled false rest = refl

-- what the graph in memory answers to an edit is what the core answers
pub try_is : (b : List ℕ) (h : List Entry) (g : EditGraph) (e : Edit) → Holds b h g → tried_of (applied (nodes_in g) (slots_in g) e) ≡ tried b h e
unfolding tried
try_is b h g e holds =
    ap tried_of (meets b (edits h) g e (stands b h g holds))
    ∙ ap (λ (lacks : Key → Bool). tried_of (need_or (find lacks ks) (up_to lacks ks) (answer_given answer))) same
    ∙ by_first (find (λ k. not (filled b h k)) ks)
  where
    ks : List Key
    ks = edit_reach (graph_after b h) e

    answer : Result (Option Token) EditRefusal
    answer = edit_answer (graph_after b h) e

    same : is_lacking g ≡ (λ k. not (filled b h k))
    same = λ i k. ap not (ap is_some (holds.slot k) ∙ slot_after_some b h k) i

    by_answer : (a : Result (Option Token) EditRefusal) → tried_of (answer_given a) ≡ tried_answer a
    by_answer (Ok made) = refl
    by_answer (Err r) = refl

    by_first : (o : Option Key) → tried_of (need_or o (up_to (λ k. not (filled b h k)) ks) (answer_given answer)) ≡ try_at (up_to_unfilled b h ks) answer o
    by_first (Some k) = ap Need (up_to_is b h ks)
    by_first None = by_answer answer
