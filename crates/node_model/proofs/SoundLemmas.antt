-- What each edit changes is sound: keys that it looked at, values of their kinds, and the next row of a table.
use Rattle.std.proofs.Common.{◌≡◌, refl, ◌∙◌, ap, subst, ℕ, Bool, true, false, List, [], ◌∷◌, Option, None, Result, Ok, Err, if◌then◌else◌}
use Rattle.std.specs.Prelude.{◌==◌, ◌||◌}
use Rattle.std.specs.List.{list_all, list_any}
use Rattle.std.proofs.lemmas.Bool.{and_parts}
use Rattle.cil_base.specs.Token.{Token}
use Rattle.il_code.specs.Body.{Body as BodyOf}
use Rattle.md_schema.specs.Tables.{nested_class}
use Rattle.node_model.specs.Changes.{Changing, new_row}
use Rattle.node_model.specs.declared.change.Change.{Change}
use Rattle.node_model.specs.EditRefusals.{early_refusal}
use Rattle.node_model.specs.EditWalks.{edit_walk, leave_walk, remove_walk, with_head}
use Rattle.node_model.specs.KeyKinds.{has_kind}
use Rattle.node_model.specs.Keys.{same_key}
use Rattle.node_model.specs.Nodes.{Nodes}
use Rattle.node_model.specs.RowLists.{added_lists, added_table, enclosing_lists, list_key}
use Rattle.node_model.specs.Walk.{Content, Walk, Gives, Asks, part, then_said, said, then_looked, looked}
use Rattle.node_model.specs.declared.walk.Halt.{Halt}
use Rattle.node_model.specs.declared.cell.Cell.{Cell}
use Rattle.node_model.specs.declared.edit.Edit.{Edit}
use Rattle.node_model.specs.declared.edit.Edit.TheVariants as edits
use Rattle.node_model.specs.declared.edit.OptSig.{OptSig}
use Rattle.node_model.specs.declared.key.Key.{Key}
use Rattle.node_model.specs.declared.key.Key.TheVariants.{Row, Sig, Owned, Data, Resource, Facts}
use Rattle.node_model.specs.declared.slot.Slot.{Slot}
use Rattle.node_model.proofs.EarlyLemmas.{Passed, has_room, passed, row_fits}
use Rattle.node_model.specs.inner.KeyEquality.{key_is}
use Rattle.node_model.proofs.LeafLemmas.{Leaves, add_leaves, body_leaf, code_leaf, insert_leaf, is_asked, is_fit, is_list_key, leave_leaves, put_leaf}
use Rattle.node_model.proofs.ListKeyLemmas.{added_are, enclosing_are, list_key_is}
use Rattle.node_model.proofs.RowLemmas.{IsNext, SoundRows}
use Rattle.node_model.proofs.SchemaLemmas.{added_small, owned_small}

add_next : (n : Nodes) (table : ℕ) (cells : List Cell) (sig : OptSig) → Passed n (edits.Add table cells sig) → IsNext n (new_row n table cells) sig
add_next n table cells sig passed =
    let fits = row_fits (added_table table) table cells sig passed.fits in
    record { token = refl; room = has_room n table passed.room; small = added_small table fits.stands; fits = fits.sig }

insert_next : (n : Nodes) (owner : Token) (table at : ℕ) (cells : List Cell) (sig : OptSig) → Passed n (edits.Insert owner table at cells sig) → IsNext n (new_row n table cells) sig
insert_next n owner table at cells sig passed =
    let fits = row_fits (has_kind (Owned owner table)) table cells sig passed.fits in
    record { token = refl; room = has_room n table passed.room; small = owned_small owner table fits.stands; fits = fits.sig }

one_list : (owner : Token) (table : ℕ) (ks : List Key) → list_all is_list_key ks ≡ true → list_all is_list_key (list_key owner table ∷ ks) ≡ true
one_list owner table ks all = rw (list_key_is owner table, all) refl

remove_leaves : (n : Nodes) (owner t : Token) → Leaves n [] (remove_walk n owner t)
remove_leaves n owner t = by_table (t.table == nested_class)
  where
    by_table : (x : Bool) → Leaves n [] (if x
        then Asks (Row t) (λ row. leave_walk t (list_key owner t.table ∷ enclosing_lists n t.table row.cells))
        else leave_walk t (list_key owner t.table ∷ []))
    by_table true = λ row. leave_leaves n (Row t ∷ []) t (list_key owner t.table ∷ enclosing_lists n t.table row.cells)
        (one_list owner t.table (enclosing_lists n t.table row.cells) (enclosing_are n t.table row.cells))
    by_table false = leave_leaves n [] t (list_key owner t.table ∷ []) (one_list owner t.table [] refl)

pub edit_leaves : (n : Nodes) (e : Edit) → early_refusal n e ≡ None → Leaves n [] (edit_walk n e)
unfolding edit_walk
edit_leaves n (edits.Set t column cell) early = λ row. put_leaf n (Row t) _ refl
edit_leaves n (edits.SetSig t sig) early = λ old. put_leaf n (Sig t) _ refl
edit_leaves n (edits.SetBody t body) early = λ old. body_leaf n t body
edit_leaves n (edits.SetData t bytes) early = λ old. put_leaf n (Data t) _ refl
edit_leaves n (edits.SetResource t value) early = λ old. put_leaf n (Resource t) _ refl
edit_leaves n (edits.SetEntry t) early = λ facts. put_leaf n Facts _ refl
edit_leaves n (edits.Add table cells sig) early =
    add_leaves n (new_row n table cells) sig (added_lists table cells) (added_are table cells) (add_next n table cells sig (passed n (edits.Add table cells sig) early))
edit_leaves n (edits.Insert owner table at cells sig) early =
    λ ts. insert_leaf n (new_row n table cells) sig owner table at ts (insert_next n owner table at cells sig (passed n (edits.Insert owner table at cells sig) early))
edit_leaves n (edits.Remove owner t) early = remove_leaves n owner t
edit_leaves n (edits.IlInsert t at instr) early = λ body. code_leaf n t _ _ body
edit_leaves n (edits.IlRemove t at) early = λ body. code_leaf n t _ _ body
edit_leaves n (edits.IlReplace t at instr) early = λ body. code_leaf n t _ _ body
edit_leaves n (edits.IlHead t max_stack init_locals locals) early =
    λ body. code_leaf n t (λ (x : BodyOf). None) (with_head max_stack init_locals locals) body
edit_leaves n (edits.AddHandler t handler) early = λ body. code_leaf n t _ _ body
edit_leaves n (edits.RemoveHandler t at) early = λ body. code_leaf n t _ _ body

-- what holds of each of these keys holds of one that is among them
pub among : (P : Key → Bool) (q : Key) (ks : List Key) → list_any (same_key q) ks ≡ true → list_all P ks ≡ true → P q ≡ true
among P q [] e all = absurd cc
among P q (k ∷ ks) e all =
    let parts = and_parts (P k) (list_all P ks) all in
    by_key (same_key q k) refl e parts.0 (λ f. among P q ks f parts.1)
  where
    by_key : (x : Bool) → same_key q k ≡ x → (x || list_any (same_key q) ks) ≡ true → P k ≡ true → (list_any (same_key q) ks ≡ true → P q ≡ true) → P q ≡ true
    by_key true is e here more = ap P (key_is q k is) ∙ here
    by_key false is e here more = more e

all_among : (P : Key → Bool) (ks : List Key) (contents : List (Key × Slot)) → list_all (is_asked ks) contents ≡ true → list_all P ks ≡ true
    → list_all (λ (s : Key × Slot). P s.0) contents ≡ true
all_among P ks [] e all = refl
all_among P ks (s ∷ contents) e all =
    let parts = and_parts (is_asked ks s) (list_all (is_asked ks) contents) e in
    rw (among P s.0 ks parts.0 all, all_among P ks contents parts.1 all) refl

-- of a change: each key that changes has the property, to a value of its kind, and the rows change soundly
pub record Sound (n : Nodes) (P : Key → Bool) (change : Change) : Type 0 where
  pub have : list_all (λ (s : Key × Slot). P s.0) change.contents ≡ true
  pub fit : list_all is_fit change.contents ≡ true
  pub rows : SoundRows n change.rows

-- what holds of each key that is looked at holds of those that change
pub contents_have : (n : Nodes) (P : Key → Bool) (p : Key → Option Slot) (ks : List Key) (w : Walk Changing) (change : Change) → list_all P ks ≡ true → Leaves n ks w
    → list_all P (looked p w) ≡ true → said p w ≡ Ok (Ok change) → Sound n P change
contents_have n P p ks (Gives (Ok c)) change all leaf looks e =
    let same : c ≡ change = cc in
    subst (Sound n P) same (record { have = all_among P ks c.contents leaf.asked all; fit = leaf.fit; rows = leaf.rows })
contents_have n P p ks (Gives (Err r)) change all leaf looks e = absurd cc
contents_have n P p ks (Asks k f) change all leaf looks e = by_part (part k (p k)) looks e (λ here v. contents_have n P p (k ∷ ks) (f v) change here (leaf v))
  where
    by_part : (s : Result (Content k) Halt) → list_all P (k ∷ then_looked s (λ v. looked p (f v))) ≡ true → then_said s (λ v. said p (f v)) ≡ Ok (Ok change)
        → (list_all P (k ∷ ks) ≡ true → (v : Content k) → list_all P (looked p (f v)) ≡ true → said p (f v) ≡ Ok (Ok change) → Sound n P change) → Sound n P change
    by_part (Ok v) looks e rest =
        let parts = and_parts (P k) (list_all P (looked p (f v))) looks in
        rest (rw (parts.0, all) refl) v parts.1 e
    by_part (Err h) looks e rest = absurd cc
