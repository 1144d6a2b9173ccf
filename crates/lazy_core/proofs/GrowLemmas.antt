-- What a legal history leaves: its edits are done, and a key that is filled is one of a row that there is.
use Rattle.std.proofs.Common.{◌≡◌, refl, sym, ◌∙◌, ap, subst, ℕ, Bool, true, false, List, [], ◌∷◌, ◌++◌, append-nil, append_assoc}
use Rattle.std.specs.Prelude.{not, ◌&&◌, ◌||◌}
use Rattle.std.specs.List.{fold, list_any}
use Rattle.std.specs.Result.{is_ok}
use Rattle.std.proofs.lemmas.Bool.{and_parts}
use Rattle.node_model.specs.EditAnswers.{all_done, edit_answer}
use Rattle.node_model.specs.Graph.{Graph, edited, untouched}
use Rattle.node_model.specs.KeyKinds.{has_kind}
use Rattle.node_model.specs.Keys.{image_rows, is_key, is_key_there, is_of_root, is_row, same_key, token_of_key}
use Rattle.node_model.specs.Nodes.{is_added}
use Rattle.node_model.specs.declared.edit.Edit.{Edit as EditOf}
use Rattle.node_model.specs.declared.entry.Entry.{Entry}
use Rattle.node_model.specs.declared.entry.Entry.TheVariants.{Fill, Edit}
use Rattle.node_model.specs.declared.key.Key.{Key}
use Rattle.node_model.specs.inner.KeyEquality.{key_is}
use Rattle.node_model.proofs.RowLemmas.{key_stays}
use Rattle.node_model.proofs.StayLemmas.{grown}
use Rattle.lazy_core.specs.History.{edits, filled, graph_after, is_fill_of}
use Rattle.lazy_core.specs.Legal.{Legal, LegalAfter, MayFollow}
use Rattle.lazy_core.proofs.HistoryLemmas.{edits-append}

pub legal_more : (b : List ℕ) (front h : List Entry) (e : Entry) → LegalAfter b front h → MayFollow b (front ++ h) e → LegalAfter b front (h ++ e ∷ [])
legal_more b front [] e legal next = (subst (λ g. MayFollow b g e) (append-nil front) next, tt)
legal_more b front (f ∷ h) e legal next =
    (legal.0, legal_more b (front ++ f ∷ []) h e legal.1 (subst (λ g. MayFollow b g e) (sym (append_assoc front (f ∷ []) h)) next))

and_over : (x y z : Bool) → (x && (y && z)) ≡ ((x && y) && z)
and_over true y z = refl
and_over false y z = refl

both_true : (x y : Bool) → x ≡ true → y ≡ true → (x && y) ≡ true
both_true x y e f = rw (e, f) refl

done_append : (g : Graph) (es fs : List EditOf) → all_done g (es ++ fs) ≡ (all_done g es && all_done (fold edited g es) fs)
done_append g [] fs = refl
done_append g (e ∷ es) fs =
    ap (λ x. is_ok (edit_answer g e) && x) (done_append (edited g e) es fs)
    ∙ and_over (is_ok (edit_answer g e)) (all_done (edited g e) es) (all_done (fold edited (edited g e) es) fs)

done_along : (b : List ℕ) (front h : List Entry) → all_done (untouched b) (edits front) ≡ true → LegalAfter b front h
    → all_done (untouched b) (edits (front ++ h)) ≡ true
done_along b front [] done legal = subst (λ g. all_done (untouched b) (edits g) ≡ true) (sym (append-nil front)) done
done_along b front (Fill by point why k ∷ h) done legal =
    subst (λ g. all_done (untouched b) (edits g) ≡ true) (append_assoc front (Fill by point why k ∷ []) h)
    (done_along b (front ++ Fill by point why k ∷ []) h
    (ap (all_done (untouched b)) (edits-append front (Fill by point why k ∷ []) ∙ append-nil (edits front)) ∙ done) legal.1)
done_along b front (Edit by es ∷ h) done legal =
    subst (λ g. all_done (untouched b) (edits g) ≡ true) (append_assoc front (Edit by es ∷ []) h)
    (done_along b (front ++ Edit by es ∷ []) h
    (ap (all_done (untouched b)) (edits-append front (Edit by es ∷ []) ∙ ap (λ fs. edits front ++ fs) (append-nil es))
    ∙ done_append (untouched b) (edits front) es
    ∙ both_true (all_done (untouched b) (edits front)) (all_done (graph_after b front) es) done legal.0.done) legal.1)

-- the edits of a legal history are done, each after those before it
pub legal_done : (b : List ℕ) (h : List Entry) → Legal b h → all_done (untouched b) (edits h) ≡ true
legal_done b h legal = done_along b [] h refl legal

-- a key of which there is a fill is one of the image
fill_along : (b : List ℕ) (front h : List Entry) (k : Key) → LegalAfter b front h → list_any (is_fill_of k) h ≡ true → is_key b k ≡ true
fill_along b front [] k legal e = absurd cc
fill_along b front (Fill by point why key ∷ h) k legal e =
    by_same (same_key k key) refl e (fill_along b (front ++ Fill by point why key ∷ []) h k legal.1)
  where
    by_same : (x : Bool) → same_key k key ≡ x → (x || list_any (is_fill_of k) h) ≡ true → (list_any (is_fill_of k) h ≡ true → is_key b k ≡ true) → is_key b k ≡ true
    by_same true same e more = ap (is_key b) (key_is k key same) ∙ legal.0.0.known
    by_same false same e more = more e
fill_along b front (Edit by es ∷ h) k legal e = fill_along b (front ++ Edit by es ∷ []) h k legal.1 e

-- a key of the image is one of a row that there still is
pub image_there : (b : List ℕ) (h : List Entry) (k : Key) → is_key b k ≡ true → (is_key_there (graph_after b h).nodes.rows k && has_kind k) ≡ true
unfolding is_key
image_there b h k known =
    let parts = and_parts (is_key_there (image_rows b) k) (has_kind k) known in
    both_true (is_key_there (graph_after b h).nodes.rows k) (has_kind k)
    (key_stays (image_rows b) (graph_after b h).nodes.rows k (grown b (edits h)) parts.0) parts.1

-- a key that is filled is one of a row that there is
pub filled_there : (b : List ℕ) (h : List Entry) (k : Key) → Legal b h → filled b h k ≡ true
    → (is_key_there (graph_after b h).nodes.rows k && has_kind k) ≡ true
unfolding filled
filled_there b h k legal e = by_fill (list_any (is_fill_of k) h) refl e
  where
    by_added : (root row own kind : Bool) → ((row && not own) && kind) ≡ true → ((root || row) && kind) ≡ true
    by_added true true false true e = refl
    by_added false true false true e = refl
    by_added root true false false e = absurd cc
    by_added root true true kind e = absurd cc
    by_added root false own kind e = absurd cc

    by_fill : (x : Bool) → list_any (is_fill_of k) h ≡ x → (x || (is_added b (graph_after b h).nodes (token_of_key k) && has_kind k)) ≡ true
        → (is_key_there (graph_after b h).nodes.rows k && has_kind k) ≡ true
    by_fill true is e = image_there b h k (fill_along b [] h k legal is)
    by_fill false is e =
        by_added (is_of_root k) (is_row (graph_after b h).nodes.rows (token_of_key k)) (is_row (image_rows b) (token_of_key k)) (has_kind k) e
