-- One edit of a graph: what it changed, and what stays.
use Rattle.std.proofs.Common.{◌≡◌, refl, sym, ◌∙◌, ap, subst, Bool, true, false, List, [], ◌∷◌, Option, Some, None, Result, Ok, Err, cond, is_some}
use Rattle.std.specs.Prelude.{◌&&◌, ◌||◌}
use Rattle.std.specs.List.{list_all, list_any}
use Rattle.std.specs.Map.{lookup}
use Rattle.std.specs.Option.{unwrap_or}
use Rattle.std.specs.Result.{is_ok}
use Rattle.std.proofs.lemmas.Bool.{and_parts}
use Rattle.node_model.specs.Changes.{Changing, begun, changed_slot}
use Rattle.node_model.specs.EditAnswers.{edit_reach}
use Rattle.node_model.specs.EditRefusals.{early_refusal}
use Rattle.node_model.specs.EditWalks.{edit_walk}
use Rattle.node_model.specs.Graph.{Graph, changing_by, edit_changing, edited, graph_changed}
use Rattle.node_model.specs.KeyKinds.{has_kind}
use Rattle.node_model.specs.Keys.{is_key_there, same_key, token_of_key}
use Rattle.node_model.specs.Nodes.{Nodes}
use Rattle.node_model.specs.Replies.{all_slots}
use Rattle.node_model.specs.Walk.{looked, part, said}
use Rattle.node_model.specs.declared.change.Change.{Change}
use Rattle.node_model.specs.declared.edit.Edit.{Edit}
use Rattle.node_model.specs.declared.edit_refusal.EditRefusal.{EditRefusal}
use Rattle.node_model.specs.declared.key.Key.{Key}
use Rattle.node_model.specs.declared.slot.Slot.{Slot}
use Rattle.node_model.specs.declared.walk.Halt.{Halt}
use Rattle.node_model.specs.declared.walk.Halt.TheVariants.{Lacks, Faulty}
use Rattle.node_model.proofs.FreshLemmas.{begun_some}
use Rattle.node_model.specs.inner.KeyEquality.{key_is, key_self}
use Rattle.node_model.proofs.LeafLemmas.{is_fit}
use Rattle.node_model.proofs.RowLemmas.{is_made, there_is_not_made}
use Rattle.node_model.proofs.SoundLemmas.{Sound, contents_have, edit_leaves}
use Rattle.node_model.proofs.WalkLemmas.{said_full}

-- the edit is not refused before, and this is what it then changes
pub record Came (n : Nodes) (p : Key → Option Slot) (e : Edit) (change : Change) : Type 0 where
  pub early : early_refusal n e ≡ None
  pub says : said p (edit_walk n e) ≡ Ok (Ok change)

pub came_of : (g : Graph) (e : Edit) (change : Change) → edit_changing g e ≡ Ok change → Came g.nodes (all_slots g) e change
unfolding edit_changing
came_of g e change is = by_said (early_refusal g.nodes e) (said (all_slots g) (edit_walk g.nodes e)) refl refl is
  where
    by_said : (o : Option EditRefusal) (s : Result Changing Halt) → early_refusal g.nodes e ≡ o → said (all_slots g) (edit_walk g.nodes e) ≡ s
        → changing_by o s ≡ Ok change → Came g.nodes (all_slots g) e change
    by_said None (Ok (Ok c)) i j is = let same : c ≡ change = cc in record { early = i; says = j ∙ ap (λ x. Ok (Ok x)) same }
    by_said None (Ok (Err r)) i j is = absurd cc
    by_said None (Err (Faulty fault)) i j is = absurd cc
    by_said None (Err (Lacks k)) i j is = absurd cc
    by_said (Some r) s i j is = absurd cc

pub changing_is : (g : Graph) (e : Edit) (change : Change) → Came g.nodes (all_slots g) e change → edit_changing g e ≡ Ok change
unfolding edit_changing
changing_is g e change came = rw (came.early, came.says) refl

pub edited_is : (g : Graph) (e : Edit) (change : Change) → edit_changing g e ≡ Ok change → edited g e ≡ graph_changed g change
unfolding edited
edited_is g e change is = rw is refl

pub edited_refused : (g : Graph) (e : Edit) (r : EditRefusal) → edit_changing g e ≡ Err r → edited g e ≡ g
unfolding edited
edited_refused g e r is = rw is refl

pub reach_is : (g : Graph) (e : Edit) → early_refusal g.nodes e ≡ None → edit_reach g e ≡ looked (all_slots g) (edit_walk g.nodes e)
unfolding edit_reach
reach_is g e early = rw early refl

-- a change by slots: each key that changes has a slot
pub sound_change : (n : Nodes) (p : Key → Option Slot) (e : Edit) (change : Change) → early_refusal n e ≡ None → said p (edit_walk n e) ≡ Ok (Ok change)
    → Sound n (λ k. is_some (p k)) change
sound_change n p e change early says =
    contents_have n (λ k. is_some (p k)) p [] (edit_walk n e) change refl (edit_leaves n e early) (said_full p (edit_walk n e) (Ok change) says) says

-- each key of a list is among its keys
pub all_within : (P : Key → Bool) (ks : List Key) → ((k : Key) → list_any (same_key k) ks ≡ true → P k ≡ true) → list_all P ks ≡ true
all_within P [] have = refl
all_within P (k ∷ ks) have =
    rw (have k (rw (key_self k) refl), all_within P ks (λ q e. have q (rw e (or_true (same_key q k))))) refl
  where
    or_true : (x : Bool) → (x || true) ≡ true
    or_true true = refl
    or_true false = refl

-- a change of the graph: each key that changes was reached
pub sound_reach : (g : Graph) (e : Edit) (change : Change) → Came g.nodes (all_slots g) e change → Sound g.nodes (λ k. list_any (same_key k) (edit_reach g e)) change
sound_reach g e change came =
    contents_have g.nodes (λ k. list_any (same_key k) (edit_reach g e)) (all_slots g) [] (edit_walk g.nodes e) change refl (edit_leaves g.nodes e came.early)
    (subst (λ ks. list_all (λ k. list_any (same_key k) (edit_reach g e)) ks ≡ true) (reach_is g e came.early)
    (all_within (λ k. list_any (same_key k) (edit_reach g e)) (edit_reach g e) (λ k here. here)))
    came.says

-- a key with new content is one of those that all have the property
pub found_has : (P : Key → Bool) (contents : List (Key × Slot)) (q : Key) → list_all (λ (s : Key × Slot). P s.0) contents ≡ true
    → is_some (lookup (same_key q) contents) ≡ true → P q ≡ true
found_has P [] q all e = absurd cc
found_has P (s ∷ contents) q all e =
    let parts = and_parts (P s.0) (list_all (λ (s : Key × Slot). P s.0) contents) all in
    by_key (same_key q s.0) refl e parts.0 (λ f. found_has P contents q parts.1 f)
  where
    by_key : (x : Bool) → same_key q s.0 ≡ x → is_some (cond x (Some s.1) (lookup (same_key q) contents)) ≡ true → P s.0 ≡ true
        → (is_some (lookup (same_key q) contents) ≡ true → P q ≡ true) → P q ≡ true
    by_key true is e here more = ap P (key_is q s.0 is) ∙ here
    by_key false is e here more = more e

-- new content is of its key's kind
pub found_fits : (contents : List (Key × Slot)) (q : Key) (s : Slot) → list_all is_fit contents ≡ true → lookup (same_key q) contents ≡ Some s → is_ok (part q (Some s)) ≡ true
found_fits [] q s all e = absurd cc
found_fits (c ∷ contents) q s all e =
    let parts = and_parts (is_fit c) (list_all is_fit contents) all in
    by_key (same_key q c.0) refl e parts.0 (λ f. found_fits contents q s parts.1 f)
  where
    by_key : (x : Bool) → same_key q c.0 ≡ x → cond x (Some c.1) (lookup (same_key q) contents) ≡ Some s → is_fit c ≡ true
        → (lookup (same_key q) contents ≡ Some s → is_ok (part q (Some s)) ≡ true) → is_ok (part q (Some s)) ≡ true
    by_key true is e here more =
        let same : c.1 ≡ s = cc in
        subst (λ k. is_ok (part k (Some s)) ≡ true) (sym (key_is q c.0 is)) (subst (λ x. is_ok (part c.0 (Some x)) ≡ true) same here)
    by_key false is e here more = more e

pub none_of : {A : Type 0} (o : Option A) → (is_some o ≡ true → ⊥) → o ≡ None
none_of None f = refl
none_of (Some a) f = absurd (f refl)

-- a key that was not reached, and that is of no new row, does not change
pub not_changed : (n : Nodes) (P : Key → Bool) (change : Change) (k : Key) → Sound n P change → P k ≡ false → (is_made change.rows (token_of_key k) && has_kind k) ≡ false
    → changed_slot change k ≡ None
unfolding changed_slot
not_changed n P change k sound free unmade =
    let content : lookup (same_key k) change.contents ≡ None = none_of (lookup (same_key k) change.contents) (λ s. clash (P k) (found_has P change.contents k sound.have s) free) in
    let new : begun change.rows k ≡ None = none_of (begun change.rows k) (λ s. clash (is_made change.rows (token_of_key k) && has_kind k) (sym (begun_some n change.rows k sound.rows) ∙ s) unmade) in
    rw (content, new) refl
  where
    clash : (x : Bool) → x ≡ true → x ≡ false → ⊥
    clash x t f = cc

and_false : (x y : Bool) → x ≡ false → (x && y) ≡ false
and_false true y e = absurd cc
and_false false y e = refl

-- a key that is there, and that an edit does not reach, holds what it held
pub edit_stays : (g : Graph) (e : Edit) (change : Change) (k : Key) → edit_changing g e ≡ Ok change → is_key_there g.nodes.rows k ≡ true
    → list_any (same_key k) (edit_reach g e) ≡ false → (edited g e).held k ≡ g.held k
edit_stays g e change k is there free =
    let sound = sound_reach g e change (came_of g e change is) in
    let unmade = and_false (is_made change.rows (token_of_key k)) (has_kind k) (there_is_not_made g.nodes change.rows k sound.rows there) in
    ap (λ (x : Graph). x.held k) (edited_is g e change is)
    ∙ ap (λ o. unwrap_or o (g.held k)) (not_changed g.nodes (λ q. list_any (same_key q) (edit_reach g e)) change k sound free unmade)
