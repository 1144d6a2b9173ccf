-- Histories, one entry after the other.
use Rattle.std.proofs.Common.{◌≡◌, refl, sym, ◌∙◌, ap, ℕ, suc, ◌≤◌, Bool, true, false, List, [], ◌∷◌, ◌++◌, length, append_assoc, append-nil, arith}
use Rattle.std.specs.Prelude.{not, ◌&&◌, ◌||◌}
use Rattle.std.specs.List.{fold, list_any}
use Rattle.std.proofs.lemmas.List.Folds.{list_any-append}
use Rattle.std.proofs.lemmas.List.Sums.{fold-append}
use Rattle.node_model.specs.Graph.{Graph, edited, graph_of, untouched}
use Rattle.node_model.specs.KeyKinds.{has_kind}
use Rattle.node_model.specs.Keys.{image_rows, is_row, same_key, token_of_key}
use Rattle.node_model.specs.Nodes.{is_added}
use Rattle.node_model.specs.declared.edit.Edit.{Edit as EditOf}
use Rattle.node_model.specs.declared.entry.By.{By}
use Rattle.node_model.specs.declared.entry.Entry.{Entry}
use Rattle.node_model.specs.declared.entry.Entry.TheVariants.{Fill, Edit}
use Rattle.node_model.specs.declared.entry.Why.{Why}
use Rattle.node_model.specs.declared.key.Key.{Key}
use Rattle.lazy_core.specs.History.{edits, filled, fills, graph_after, is_fill_of}

pub edits-append : (h g : List Entry) → edits (h ++ g) ≡ edits h ++ edits g
edits-append [] g = refl
edits-append (Fill by point why key ∷ h) g = edits-append h g
edits-append (Edit by es ∷ h) g = ap (λ js. es ++ js) (edits-append h g) ∙ sym (append_assoc es (edits h) (edits g))

-- the graph once a fill, or edits, have come
pub graph_fill : (b : List ℕ) (h : List Entry) (by : By) (point : ℕ) (why : Why) (k : Key)
    → graph_after b (h ++ Fill by point why k ∷ []) ≡ graph_after b h
graph_fill b h by point why k = ap (graph_of b) (edits-append h (Fill by point why k ∷ []) ∙ append-nil (edits h))

pub edits_edit : (h : List Entry) (by : By) (e : EditOf) → edits (h ++ Edit by (e ∷ []) ∷ []) ≡ edits h ++ e ∷ []
edits_edit h by e = edits-append h (Edit by (e ∷ []) ∷ [])

pub graph_edits : (b : List ℕ) (h : List Entry) (by : By) (es : List EditOf) → graph_after b (h ++ Edit by es ∷ []) ≡ fold edited (graph_after b h) es
graph_edits b h by es =
    ap (graph_of b) (edits-append h (Edit by es ∷ []) ∙ ap (λ fs. edits h ++ fs) (append-nil es)) ∙ fold-append edited (untouched b) (edits h) es

-- how many entries are fills
pub fills_fill : (h : List Entry) (by : By) (point : ℕ) (why : Why) (k : Key) → fills (h ++ Fill by point why k ∷ []) ≡ suc (fills h)
unfolding fills
fills_fill [] by point why k = refl
fills_fill (Fill b p w j ∷ h) by point why k = ap suc (fills_fill h by point why k)
fills_fill (Edit b es ∷ h) by point why k = fills_fill h by point why k

pub fills_edit : (h : List Entry) (by : By) (es : List EditOf) → fills (h ++ Edit by es ∷ []) ≡ fills h
unfolding fills
fills_edit [] by es = refl
fills_edit (Fill b p w j ∷ h) by es = ap suc (fills_edit h by es)
fills_edit (Edit b fs ∷ h) by es = fills_edit h by es

pub fills_few : (h : List Entry) → fills h ≤ length h
unfolding fills
fills_few [] = omega arith
fills_few (Fill by point why k ∷ h) = omega (arith, fills_few h)
fills_few (Edit by es ∷ h) = omega (arith, fills_few h)

-- nothing is filled before any entry: no row was added then
pub none_filled : (b : List ℕ) (k : Key) → filled b [] k ≡ false
unfolding filled
none_filled b k = by_row (is_row (image_rows b) (token_of_key k)) (has_kind k)
  where
    by_row : (x y : Bool) → (false || ((x && not x) && y)) ≡ false
    by_row true y = refl
    by_row false y = refl

or_false : (x : Bool) → (x || false) ≡ x
or_false true = refl
or_false false = refl

-- what is filled once a fill more has come
pub filled_more : (b : List ℕ) (h : List Entry) (by : By) (point : ℕ) (why : Why) (k q : Key)
    → filled b (h ++ Fill by point why k ∷ []) q ≡ (filled b h q || same_key q k)
unfolding filled
filled_more b h by point why k q =
    ap (λ x. x || added (graph_after b (h ++ Fill by point why k ∷ [])))
    (list_any-append (is_fill_of q) h (Fill by point why k ∷ []) ∙ ap (λ x. list_any (is_fill_of q) h || x) (or_false (same_key q k)))
    ∙ ap (λ g. (list_any (is_fill_of q) h || same_key q k) || added g) (graph_fill b h by point why k)
    ∙ turned (list_any (is_fill_of q) h) (same_key q k) (added (graph_after b h))
  where
    added : Graph → Bool
    added g = is_added b g.nodes (token_of_key q) && has_kind q

    turned : (x y z : Bool) → ((x || y) || z) ≡ ((x || z) || y)
    turned true y z = refl
    turned false true true = refl
    turned false true false = refl
    turned false false true = refl
    turned false false false = refl

-- no edit is a fill
pub fills_of_edit : (h : List Entry) (by : By) (es : List EditOf) (k : Key) → list_any (is_fill_of k) (h ++ Edit by es ∷ []) ≡ list_any (is_fill_of k) h
fills_of_edit h by es k = list_any-append (is_fill_of k) h (Edit by es ∷ []) ∙ or_false (list_any (is_fill_of k) h)
