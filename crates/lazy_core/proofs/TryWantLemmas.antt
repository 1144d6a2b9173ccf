-- The key that is needed for an edit is wanted.
use Rattle.std.proofs.Common.{◌≡◌, refl, sym, ◌∙◌, ap, subst, ℕ, suc, ◌-◌, slice_get, Bool, true, false, List, [], ◌∷◌, length, cond, arith}
use Rattle.std.specs.Prelude.{Option, Some, None, Result, Ok, Err, not, if◌then◌else◌, ◌&&◌, ◌||◌}
use Rattle.std.specs.List.{list_all, list_any}
use Rattle.std.proofs.Math.Seq.{take-length}
use Rattle.std.proofs.lemmas.Bool.{and_parts}
use Rattle.cil_base.specs.Token.{Token}
use Rattle.node_model.specs.EditAnswers.{edit_answer, edit_reach, up_to_fault}
use Rattle.node_model.specs.Graph.{Graph}
use Rattle.node_model.specs.KeyKinds.{has_kind}
use Rattle.node_model.specs.Keys.{is_key_there, same_key}
use Rattle.node_model.specs.declared.edit.Edit.{Edit}
use Rattle.node_model.specs.declared.edit_refusal.EditRefusal.{EditRefusal}
use Rattle.node_model.specs.declared.entry.Entry.{Entry}
use Rattle.node_model.specs.declared.entry.Why.TheVariants as whys
use Rattle.node_model.specs.declared.key.Key.{Key}
use Rattle.node_model.specs.inner.KeyEquality.{key_self}
use Rattle.node_model.proofs.ReachLemmas.{reach_known, reach_to_fault, through_to_fault}
use Rattle.node_model.proofs.WalkLemmas.{through}
use Rattle.lazy_core.specs.History.{filled, graph_after}
use Rattle.lazy_core.specs.Legal.{WasWanted, reach_why}
use Rattle.lazy_core.specs.Steps.{TryNeedIsWanted, last_key, tried_answer, up_to_unfilled}
use Rattle.lazy_core.specs.declared.wanted.Tried.TheVariants.{Need}
use Rattle.lazy_core.proofs.ReplyLemmas.{known_there}
use Rattle.lazy_core.proofs.TryLemmas.{first_unfilled, tried_by}

-- of the keys up to the first that is not filled, that one is the last
last_more : (j k : Key) (ks : List Key) → last_key (j ∷ k ∷ ks) ≡ last_key (k ∷ ks)
last_more j k ks =
    let long : length (j ∷ k ∷ ks) - 1 ≡ suc (length ks) = omega arith in
    let short : length (k ∷ ks) - 1 ≡ length ks = omega arith in
    ap (slice_get (j ∷ k ∷ ks)) long ∙ ap (slice_get (k ∷ ks)) (sym short)

last_is : (b : List ℕ) (h : List Entry) (ks : List Key) (k : Key) → first_unfilled b h ks ≡ Some k → last_key (up_to_unfilled b h ks) ≡ Some k
last_is b h [] k e = absurd cc
last_is b h (j ∷ ks) k e = by_filled (filled b h j) e (last_is b h ks k)
  where
    before : (js : List Key) → last_key js ≡ Some k → last_key (j ∷ js) ≡ Some k
    before [] e = absurd cc
    before (i ∷ is) e = last_more j i is ∙ e

    by_filled : (x : Bool) → cond (not x) (Some j) (first_unfilled b h ks) ≡ Some k → (first_unfilled b h ks ≡ Some k → last_key (up_to_unfilled b h ks) ≡ Some k)
        → last_key (j ∷ (if x then up_to_unfilled b h ks else [])) ≡ Some k
    by_filled true e rest = before (up_to_unfilled b h ks) (rest e)
    by_filled false e rest = e

-- the first key that is not filled is not filled, and has what each key has
pub first_has : (b : List ℕ) (h : List Entry) (P : Key → Bool) (ks : List Key) (k : Key) → list_all P ks ≡ true → first_unfilled b h ks ≡ Some k
    → (filled b h k ≡ false) × (P k ≡ true)
first_has b h P [] k all e = absurd cc
first_has b h P (j ∷ ks) k all e =
    let parts = and_parts (P j) (list_all P ks) all in
    by_filled (filled b h j) refl e parts.0 (first_has b h P ks k parts.1)
  where
    by_filled : (x : Bool) → filled b h j ≡ x → cond (not x) (Some j) (first_unfilled b h ks) ≡ Some k → P j ≡ true
        → (first_unfilled b h ks ≡ Some k → (filled b h k ≡ false) × (P k ≡ true)) → (filled b h k ≡ false) × (P k ≡ true)
    by_filled true is e here rest = rest e
    by_filled false is e here rest =
        let same : j ≡ k = cc in
        (ap (filled b h) (sym same) ∙ is, ap P (sym same) ∙ here)

-- it is among those keys
among : (b : List ℕ) (h : List Entry) (ks : List Key) (k : Key) → first_unfilled b h ks ≡ Some k → list_any (same_key k) (up_to_unfilled b h ks) ≡ true
among b h [] k e = absurd cc
among b h (j ∷ ks) k e = by_filled (filled b h j) e (among b h ks k)
  where
    or_right : (x y : Bool) → y ≡ true → (x || y) ≡ true
    or_right true y e = refl
    or_right false y e = e

    by_filled : (x : Bool) → cond (not x) (Some j) (first_unfilled b h ks) ≡ Some k → (first_unfilled b h ks ≡ Some k → list_any (same_key k) (up_to_unfilled b h ks) ≡ true)
        → (same_key k j || list_any (same_key k) (if x then up_to_unfilled b h ks else [])) ≡ true
    by_filled true e rest = or_right (same_key k j) (list_any (same_key k) (up_to_unfilled b h ks)) (rest e)
    by_filled false e rest =
        let same : j ≡ k = cc in
        rw (ap (same_key k) same ∙ key_self k) refl

through_is : (b : List ℕ) (h : List Entry) (ks : List Key) → through (λ k. not (filled b h k)) ks ≡ up_to_unfilled b h ks
through_is b h [] = refl
through_is b h (k ∷ ks) = ap (λ js. k ∷ js) (by_filled (filled b h k) (through_is b h ks))
  where
    by_filled : (x : Bool) → through (λ k. not (filled b h k)) ks ≡ up_to_unfilled b h ks
        → (if not x then [] else through (λ k. not (filled b h k)) ks) ≡ (if x then up_to_unfilled b h ks else [])
    by_filled true rest = rest
    by_filled false rest = refl

-- no key before it holds a fault
no_fault : (b : List ℕ) (h : List Entry) (g : Graph) (e : Edit) → up_to_fault g (up_to_unfilled b h (edit_reach g e)) ≡ up_to_unfilled b h (edit_reach g e)
no_fault b h g e =
    subst (λ ks. up_to_fault g ks ≡ ks) (through_is b h (edit_reach g e)) (through_to_fault g (λ k. not (filled b h k)) (edit_reach g e) (reach_to_fault g e))

answer_needs_none : (a : Result (Option Token) EditRefusal) (ks : List Key) → tried_answer a ≡ Need ks → ⊥
answer_needs_none (Ok made) ks e = cc
answer_needs_none (Err r) ks e = cc

pub try_needed : TryNeedIsWanted
try_needed b h e ks k need last = by_first (first_unfilled b h (edit_reach (graph_after b h) e)) refl
  where
    by_first : (o : Option Key) → first_unfilled b h (edit_reach (graph_after b h) e) ≡ o → WasWanted b h (length h) (whys.Keys ks) k
    by_first None is = absurd (answer_needs_none (edit_answer (graph_after b h) e) ks (sym (tried_by b h e None is) ∙ need))
    by_first (Some j) is =
        let told : Need (up_to_unfilled b h (edit_reach (graph_after b h) e)) ≡ Need ks = sym (tried_by b h e (Some j) is) ∙ need in
        let keys : up_to_unfilled b h (edit_reach (graph_after b h) e) ≡ ks = cc in
        let ends : Some j ≡ Some k = sym (last_is b h (edit_reach (graph_after b h) e) j is) ∙ ap last_key keys ∙ last in
        let same : j ≡ k = cc in
        let has = first_has b h (λ q. is_key_there (graph_after b h).nodes.rows q && has_kind q) (edit_reach (graph_after b h) e) j (reach_known (graph_after b h) e) is in
        subst (λ q. WasWanted b h (length h) (whys.Keys ks) q) same (record {
          early = omega arith;
          known = known_there b h j has.1 has.0;
          reached = subst (λ g. list_any (same_key j) (reach_why (graph_after b g) (whys.Keys ks)) ≡ true) (sym (take-length h))
              (subst (λ js. list_any (same_key j) (up_to_fault (graph_after b h) js) ≡ true) keys
              (ap (list_any (same_key j)) (no_fault b h (graph_after b h) e) ∙ among b h (edit_reach (graph_after b h) e) j is));
          unfilled = subst (λ g. filled b g j ≡ false) (sym (take-length h)) has.0;
        })
