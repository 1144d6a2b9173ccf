-- A change that was made stands for the edits with this one, and a graph that was kept for what it stood for.
use Rattle.std.proofs.Common.{◌≡◌, refl, sym, ◌∙◌, ap, subst, Bool, true, false, not, List, [], ◌∷◌, ◌++◌, Option, Some, None, Result, Ok, Err, is_some, find}
use Rattle.std.specs.Prelude.{◌&&◌, ◌||◌, slice_index}
use Rattle.std.specs.List.{fold}
use Rattle.std.specs.Map.{lookup}
use Rattle.std.specs.Option.{option_or, unwrap_or}
use Rattle.std.specs.Result.{is_ok}
use Rattle.std.proofs.lemmas.Bool.{and_parts}
use Rattle.std.proofs.lemmas.List.Sums.{fold-append}
use Rattle.node_model.specs.Changes.{Changing, begun, changed_slot, nodes_after}
use Rattle.node_model.specs.EditAnswers.{all_done, answer_by, edit_answer}
use Rattle.node_model.specs.EditRefusals.{early_refusal}
use Rattle.node_model.specs.EditWalks.{edit_walk}
use Rattle.node_model.specs.Graph.{Graph, edit_changing, edited, graph_changed, graph_of, untouched}
use Rattle.node_model.specs.KeyKinds.{has_kind}
use Rattle.node_model.specs.Keys.{is_key_there, same_key, token_of_key}
use Rattle.node_model.specs.Nodes.{Nodes, is_added}
use Rattle.node_model.specs.Places.{image_shape}
use Rattle.node_model.specs.Replies.{all_slots}
use Rattle.node_model.specs.Walk.{looked, said}
use Rattle.node_model.specs.declared.change.Change.{Change}
use Rattle.node_model.specs.declared.edit.Edit.{Edit}
use Rattle.node_model.specs.declared.edit_refusal.EditRefusal.{EditRefusal}
use Rattle.node_model.specs.declared.key.Key.{Key}
use Rattle.node_model.specs.declared.slot.Slot.{Slot}
use Rattle.node_model.specs.declared.walk.Halt.{Halt}
use Rattle.node_model.proofs.AddedLemmas.{added_after}
use Rattle.node_model.proofs.FreshLemmas.{begun_some}
use Rattle.node_model.proofs.RowLemmas.{is_made, key_after, there_is_not_made}
use Rattle.node_model.proofs.SoundLemmas.{Sound}
use Rattle.node_model.proofs.StayLemmas.{grown}
use Rattle.node_model.proofs.StepLemmas.{Came, changing_is, edited_is, found_has, none_of, sound_change}
use Rattle.node_model.proofs.WalkLemmas.{first_lacking, until}
use Rattle.graph_edits.specs.Applying.{change_by, change_made}
use Rattle.graph_edits.specs.Graphs.{nodes_in, slots_in}
use Rattle.graph_edits.specs.Stands.{DoneIsTheNext, KeptIsTheSame}
use Rattle.graph_edits.proofs.MeetLemmas.{partial}

-- the edit is not refused before, and this is what it then changes
pub came_made : (n : Nodes) (p : Key → Option Slot) (e : Edit) (change : Change) → change_made n p e ≡ Some change → Came n p e change
unfolding change_made
came_made n p e change is = by_said (early_refusal n e) (said p (edit_walk n e)) refl refl is
  where
    by_said : (o : Option EditRefusal) (s : Result Changing Halt) → early_refusal n e ≡ o → said p (edit_walk n e) ≡ s → change_by o s ≡ Some change → Came n p e change
    by_said None (Ok (Ok c)) i j is = let same : c ≡ change = cc in record { early = i; says = j ∙ ap (λ x. Ok (Ok x)) same }
    by_said None (Ok (Err r)) i j is = absurd cc
    by_said None (Err h) i j is = absurd cc
    by_said (Some r) s i j is = absurd cc

some_is : {A : Type 0} (x y : A) → Some x ≡ Some y → x ≡ y
some_is x y e = cc

until_ok : {R : Type 0} (o : Option Key) (s : Result R Halt) (r : R) → until o s ≡ Ok r → s ≡ Ok r
until_ok (Some k) s r e = absurd cc
until_ok None s r e = e

done_append : (g : Graph) (j : List Edit) (e : Edit) → all_done g j ≡ true → is_ok (edit_answer (fold edited g j) e) ≡ true → all_done g (j ++ e ∷ []) ≡ true
done_append g [] e done ok = rw ok refl
done_append g (d ∷ j) e done ok =
    let parts = and_parts (is_ok (edit_answer g d)) (all_done (edited g d) j) done in
    rw (parts.0, done_append (edited g d) j e parts.1 ok) refl

or_left : (x y : Bool) → x ≡ true → (x || y) ≡ true
or_left true y e = refl
or_left false y e = absurd cc

or_right : (x y : Bool) → y ≡ true → (x || y) ≡ true
or_right true y e = refl
or_right false y e = e

clash : (x : Bool) → x ≡ true → x ≡ false → ⊥
clash x t f = cc

and_false : (x y : Bool) → x ≡ false → (x && y) ≡ false
and_false true y e = absurd cc
and_false false y e = refl

or_either : {P : Type 0} (x y : Bool) → (x || y) ≡ true → (x ≡ true → P) → (y ≡ true → P) → P
or_either true y e f g = f refl
or_either false y e f g = g e

over_and : (x y z : Bool) → ((x || y) && z) ≡ ((x && z) || (y && z))
over_and true true true = refl
over_and true true false = refl
over_and true false true = refl
over_and true false false = refl
over_and false y z = refl

pub done : DoneIsTheNext
unfolding changed_slot
done b j old new e change stands change_is made = record {
  graph = record {
    done = done_append (untouched b) j e stands.graph.done (ap (λ c. is_ok (answer_by c)) changing);
    nodes = made.nodes ∙ nodes_are;
    known = λ k is. subst (λ n. (is_key_there n.rows k && has_kind k) ≡ true) (sym made.nodes) (known_is k (ap is_some (sym (made.slots k)) ∙ is));
    slot = λ k s is. slot_is k s (lookup (same_key k) change.contents) (slots_in old k) (begun change.rows k) refl refl refl (sym (made.slots k) ∙ is)
        ∙ ap (λ (x : Graph). x.held k) (sym next);
    added = λ k is. ap is_some (made.slots k) ∙ has_slot k (subst (λ n. (is_added b n (token_of_key k) && has_kind k) ≡ true) made.nodes is);
  };
  rows = λ table. ap (λ rows. slice_index rows table) made.rows ∙ stands.rows table;
  shape = made.shape ∙ stands.shape ∙ ap image_shape (sym made.rows);
}
  where
    G : Graph
    G = graph_of b j

    came_slots : Came G.nodes (slots_in old) e change
    came_slots = came_made G.nodes (slots_in old) e change (subst (λ n. change_made n (slots_in old) e ≡ Some change) stands.graph.nodes change_is)

    came_graph : Came G.nodes (all_slots G) e change
    came_graph = record {
      early = came_slots.early;
      says = until_ok (find (λ k. not (is_some (slots_in old k))) (looked (all_slots G) (edit_walk G.nodes e))) (said (all_slots G) (edit_walk G.nodes e)) (Ok change)
          (sym (first_lacking (λ k. is_some (slots_in old k)) G.held (slots_in old) (partial b j old stands) (edit_walk G.nodes e)) ∙ came_slots.says);
    }

    changing : edit_changing G e ≡ Ok change
    changing = changing_is G e change came_graph

    next : graph_of b (j ++ e ∷ []) ≡ graph_changed G change
    next = fold-append edited (untouched b) j (e ∷ []) ∙ edited_is G e change changing

    nodes_are : nodes_after change.rows (nodes_in old) ≡ (graph_of b (j ++ e ∷ [])).nodes
    nodes_are = ap (nodes_after change.rows) stands.graph.nodes ∙ ap (λ (x : Graph). x.nodes) (sym next)

    sound : Sound G.nodes (λ k. is_some (slots_in old k)) change
    sound = sound_change G.nodes (slots_in old) e change came_slots.early came_slots.says

    known_old : (k : Key) → is_some (slots_in old k) ≡ true → (is_key_there G.nodes.rows k && has_kind k) ≡ true
    known_old k is = subst (λ n. (is_key_there n.rows k && has_kind k) ≡ true) stands.graph.nodes (stands.graph.known k is)

    new_of : (k : Key) → is_some (slots_in old k) ≡ true → begun change.rows k ≡ None
    new_of k is =
        let there = (and_parts (is_key_there G.nodes.rows k) (has_kind k) (known_old k is)).0 in
        let unmade = and_false (is_made change.rows (token_of_key k)) (has_kind k) (there_is_not_made G.nodes change.rows k sound.rows there) in
        none_of (begun change.rows k) (λ x. clash (is_made change.rows (token_of_key k) && has_kind k) (sym (begun_some G.nodes change.rows k sound.rows) ∙ x) unmade)

    slot_is : (k : Key) (s : Slot) (w o f : Option Slot) → lookup (same_key k) change.contents ≡ w → slots_in old k ≡ o → begun change.rows k ≡ f
        → option_or w (option_or o f) ≡ Some s → s ≡ unwrap_or (changed_slot change k) (G.held k)
    slot_is k s (Some x) o f i l m is = rw i (sym (some_is x s is))
    slot_is k s None (Some x) f i l m is = rw (i, new_of k (ap is_some l)) (sym (some_is x s is) ∙ stands.graph.slot k x l)
    slot_is k s None None (Some x) i l m is = rw (i, m) (sym (some_is x s is))
    slot_is k s None None None i l m is = absurd cc

    known_by : (k : Key) (w o f : Option Slot) → lookup (same_key k) change.contents ≡ w → slots_in old k ≡ o → begun change.rows k ≡ f
        → is_some (option_or w (option_or o f)) ≡ true
        → ((is_key_there G.nodes.rows k && has_kind k) || (is_made change.rows (token_of_key k) && has_kind k)) ≡ true
    known_by k (Some x) o f i l m is =
        or_left (is_key_there G.nodes.rows k && has_kind k) (is_made change.rows (token_of_key k) && has_kind k)
        (known_old k (found_has (λ q. is_some (slots_in old q)) change.contents k sound.have (ap is_some i)))
    known_by k None (Some x) f i l m is =
        or_left (is_key_there G.nodes.rows k && has_kind k) (is_made change.rows (token_of_key k) && has_kind k) (known_old k (ap is_some l))
    known_by k None None (Some x) i l m is =
        or_right (is_key_there G.nodes.rows k && has_kind k) (is_made change.rows (token_of_key k) && has_kind k)
        (sym (begun_some G.nodes change.rows k sound.rows) ∙ ap is_some m)
    known_by k None None None i l m is = absurd cc

    known_is : (k : Key) → is_some (option_or (lookup (same_key k) change.contents) (option_or (slots_in old k) (begun change.rows k))) ≡ true
        → (is_key_there (nodes_after change.rows (nodes_in old)).rows k && has_kind k) ≡ true
    known_is k is =
        ap (λ n. is_key_there (nodes_after change.rows n).rows k && has_kind k) stands.graph.nodes
        ∙ ap (λ x. x && has_kind k) (key_after G.nodes change.rows k sound.rows)
        ∙ over_and (is_key_there G.nodes.rows k) (is_made change.rows (token_of_key k)) (has_kind k)
        ∙ known_by k (lookup (same_key k) change.contents) (slots_in old k) (begun change.rows k) refl refl refl is

    slot_there : (k : Key) (w o f : Option Slot) → (is_some o ≡ true → is_some (option_or w (option_or o f)) ≡ true) × (is_some f ≡ true → is_some (option_or w (option_or o f)) ≡ true)
    slot_there k (Some x) o f = (λ is. refl, λ is. refl)
    slot_there k None (Some y) f = (λ is. refl, λ is. refl)
    slot_there k None None f = (λ is. absurd cc, λ is. is)

    has_slot : (k : Key) → (is_added b (nodes_after change.rows (nodes_in old)) (token_of_key k) && has_kind k) ≡ true
        → is_some (option_or (lookup (same_key k) change.contents) (option_or (slots_in old k) (begun change.rows k))) ≡ true
    has_slot k is =
        let there = slot_there k (lookup (same_key k) change.contents) (slots_in old k) (begun change.rows k) in
        or_either (is_added b G.nodes (token_of_key k) && has_kind k) (is_made change.rows (token_of_key k) && has_kind k)
        (sym (ap (λ n. is_added b (nodes_after change.rows n) (token_of_key k) && has_kind k) stands.graph.nodes
        ∙ ap (λ x. x && has_kind k) (added_after b G.nodes change.rows (token_of_key k) (grown b j) sound.rows)
        ∙ over_and (is_added b G.nodes (token_of_key k)) (is_made change.rows (token_of_key k)) (has_kind k)) ∙ is)
        (λ old_is. there.0 (stands.graph.added k (subst (λ n. (is_added b n (token_of_key k) && has_kind k) ≡ true) (sym stands.graph.nodes) old_is)))
        (λ new_is. there.1 (begun_some G.nodes change.rows k sound.rows ∙ new_is))

pub kept : KeptIsTheSame
kept b j old new stands shape rows nodes slots = record {
  graph = record {
    done = stands.graph.done;
    nodes = nodes ∙ stands.graph.nodes;
    known = λ k is. subst (λ n. (is_key_there n.rows k && has_kind k) ≡ true) (sym nodes) (stands.graph.known k (ap is_some (sym (slots k)) ∙ is));
    slot = λ k s is. stands.graph.slot k s (sym (slots k) ∙ is);
    added = λ k is. ap is_some (slots k) ∙ stands.graph.added k (subst (λ n. (is_added b n (token_of_key k) && has_kind k) ≡ true) nodes is);
  };
  rows = λ table. ap (λ rows. slice_index rows table) rows ∙ stands.rows table;
  shape = shape ∙ stands.shape ∙ ap image_shape (sym rows);
}
