-- Edits, one after the other: rows that were there stay, and keys that none of them reaches hold what they held.
use Rattle.std.proofs.Common.{◌≡◌, refl, sym, ◌∙◌, ap, subst, ℕ, ◌≤◌, Bool, true, false, List, [], ◌∷◌, Ok, Err, cond, arith}
use Rattle.std.specs.Prelude.{◌||◌, not}
use Rattle.std.specs.List.{filter, fold, list_any}
use Rattle.std.specs.Result.{is_ok}
use Rattle.std.proofs.lemmas.Bool.{and_parts, or_parts}
use Rattle.std.proofs.lemmas.List.Folds.{list_any-append}
use Rattle.cil_base.specs.Token.{Token}
use Rattle.node_model.specs.Changes.{Changing, token_made}
use Rattle.node_model.specs.EditAnswers.{all_done, answer_by, edit_answer, edit_reach, edits_reach, keys_but}
use Rattle.node_model.specs.Graph.{Graph, edit_changing, edited, graph_of, untouched}
use Rattle.node_model.specs.Keys.{is_key_there, same_key, same_token, token_of_key}
use Rattle.node_model.specs.declared.change.RowChange.{RowChange}
use Rattle.node_model.specs.declared.change.RowChange.TheVariants.{Stays, Made, Gone}
use Rattle.node_model.specs.declared.edit.Edit.{Edit}
use Rattle.node_model.specs.declared.key.Key.{Key}
use Rattle.node_model.proofs.AddedLemmas.{Grown}
use Rattle.node_model.specs.inner.KeyEquality.{key_is}
use Rattle.node_model.proofs.RowLemmas.{is_made, key_stays, rows_grow, there_is_not_made}
use Rattle.node_model.proofs.StepLemmas.{came_of, edit_stays, edited_is, edited_refused, sound_reach}

edit_grows : (g : Graph) (e : Edit) (table : ℕ) → g.nodes.rows table ≤ (edited g e).nodes.rows table
edit_grows g e table = by_changing (edit_changing g e) refl
  where
    by_changing : (c : Changing) → edit_changing g e ≡ c → g.nodes.rows table ≤ (edited g e).nodes.rows table
    by_changing (Ok change) is = subst (λ (x : Graph). g.nodes.rows table ≤ x.nodes.rows table) (sym (edited_is g e change is)) (rows_grow g.nodes change.rows table)
    by_changing (Err r) is = subst (λ (x : Graph). g.nodes.rows table ≤ x.nodes.rows table) (sym (edited_refused g e r is)) (omega arith)

edits_grow : (g : Graph) (es : List Edit) (table : ℕ) → g.nodes.rows table ≤ (fold edited g es).nodes.rows table
edits_grow g [] table = omega arith
edits_grow g (e ∷ es) table =
    let one = edit_grows g e table in
    let rest = edits_grow (edited g e) es table in
    omega arith

-- no edits take away rows of the image
pub grown : (b : List ℕ) (j : List Edit) → Grown b (graph_of b j).nodes
grown b j table = edits_grow (untouched b) j table

-- a key that is there stays
pub stays_there : (g : Graph) (es : List Edit) (k : Key) → is_key_there g.nodes.rows k ≡ true → is_key_there (fold edited g es).nodes.rows k ≡ true
stays_there g es k there = key_stays g.nodes.rows (fold edited g es).nodes.rows k (edits_grow g es) there

-- without keys of another row, a key is among those that it was among
any_kept : (t : Token) (k : Key) (ks : List Key) → same_token t (token_of_key k) ≡ false
    → list_any (same_key k) (filter (λ q. not (same_token t (token_of_key q))) ks) ≡ list_any (same_key k) ks
any_kept t k [] other = refl
any_kept t k (q ∷ ks) other = by_tests (same_token t (token_of_key q)) (same_key k q) refl refl (any_kept t k ks other)
  where
    clash : (x : Bool) → x ≡ false → x ≡ true → ⊥
    clash x f t = cc

    by_tests : (x y : Bool) → same_token t (token_of_key q) ≡ x → same_key k q ≡ y
        → list_any (same_key k) (filter (λ q. not (same_token t (token_of_key q))) ks) ≡ list_any (same_key k) ks
        → list_any (same_key k) (cond (not x) (q ∷ filter (λ q. not (same_token t (token_of_key q))) ks) (filter (λ q. not (same_token t (token_of_key q))) ks))
        ≡ (y || list_any (same_key k) ks)
    by_tests true true i j more = absurd (clash (same_token t (token_of_key k)) other (ap (λ x. same_token t (token_of_key x)) (key_is k q j) ∙ i))
    by_tests true false i j more = more
    by_tests false y i j more = rw j (ap (λ x. y || x) more)

kept_but : (rows : RowChange) (k : Key) (ks : List Key) → is_made rows (token_of_key k) ≡ false → list_any (same_key k) (keys_but (Ok (token_made rows)) ks) ≡ list_any (same_key k) ks
kept_but Stays k ks other = refl
kept_but (Made row sig) k ks other = any_kept row.token k ks other
kept_but (Gone t) k ks other = refl

-- a key that is there, and that no edit of these reaches, holds what it held
pub edits_stay : (g : Graph) (es : List Edit) (k : Key) → all_done g es ≡ true → is_key_there g.nodes.rows k ≡ true → list_any (same_key k) (edits_reach g es) ≡ false
    → (fold edited g es).held k ≡ g.held k
unfolding edits_reach
edits_stay g [] k done there free = refl
edits_stay g (e ∷ es) k done there free =
    let parts = and_parts (is_ok (edit_answer g e)) (all_done (edited g e) es) done in
    let frees = or_parts (list_any (same_key k) (edit_reach g e)) (list_any (same_key k) (keys_but (edit_answer g e) (edits_reach (edited g e) es)))
    (sym (list_any-append (same_key k) (edit_reach g e) (keys_but (edit_answer g e) (edits_reach (edited g e) es))) ∙ free) in
    by_changing (edit_changing g e) refl parts.0 frees.1
    (λ more. edits_stay (edited g e) es k parts.1 (stays_there g (e ∷ []) k there) more) frees.0
  where
    by_changing : (c : Changing) → edit_changing g e ≡ c → is_ok (answer_by c) ≡ true → list_any (same_key k) (keys_but (answer_by c) (edits_reach (edited g e) es)) ≡ false
        → (list_any (same_key k) (edits_reach (edited g e) es) ≡ false → (fold edited (edited g e) es).held k ≡ (edited g e).held k)
        → list_any (same_key k) (edit_reach g e) ≡ false
        → (fold edited (edited g e) es).held k ≡ g.held k
    by_changing (Err r) is ok rest more here = absurd cc
    by_changing (Ok change) is ok rest more here =
        let sound = sound_reach g e change (came_of g e change is) in
        let unmade = there_is_not_made g.nodes change.rows k sound.rows there in
        more (sym (kept_but change.rows k (edits_reach (edited g e) es) unmade) ∙ rest) ∙ edit_stays g e change k is there here
