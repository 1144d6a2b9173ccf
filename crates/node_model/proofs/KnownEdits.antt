-- Each key that an edit looks at is there, and its table has its kind, where the edit is not refused before.
use Rattle.std.proofs.Common.{◌≡◌, refl, sym, ◌∙◌, ℕ, Bool, true, false, List, [], ◌∷◌, ◌++◌, None, if◌then◌else◌}
use Rattle.std.specs.Prelude.{◌==◌}
use Rattle.std.specs.List.{list_all, list_any}
use Rattle.std.proofs.lemmas.Bool.{and_parts}
use Rattle.std.proofs.lemmas.List.Folds.{list_all-append}
use Rattle.cil_base.specs.Token.{Token}
use Rattle.md_schema.specs.Tables.{nested_class}
use Rattle.node_model.specs.ColumnFit.{may_set}
use Rattle.node_model.specs.EditRefusals.{early_refusal, is_bad_name, owner_rows}
use Rattle.node_model.specs.EditWalks.{edit_walk, leave_walk, remove_walk}
use Rattle.node_model.specs.KeyKinds.{has_kind}
use Rattle.node_model.specs.NamedTokens.{cells_name, opt_sig_names}
use Rattle.node_model.specs.Nodes.{Nodes, is_live_row}
use Rattle.node_model.specs.PlacedCells.{row_placed, set_placed}
use Rattle.node_model.specs.RowLists.{added_lists, enclosing_lists, has_list, list_key}
use Rattle.node_model.specs.Signatures.{sort_fits}
use Rattle.node_model.specs.Walk.{Asks}
use Rattle.node_model.specs.declared.cell.Cell.{Cell}
use Rattle.node_model.specs.declared.edit.Edit.{Edit}
use Rattle.node_model.specs.declared.edit.Edit.TheVariants as edits
use Rattle.node_model.specs.declared.edit.OptSig.{OptSig}
use Rattle.node_model.specs.declared.key.Key.{Key}
use Rattle.node_model.specs.declared.key.Key.TheVariants.{Row, Sig, Owned, Body, Data, Resource}
use Rattle.node_model.proofs.EarlyLemmas.{Passed, found_none, passed, row_fits, told_none}
use Rattle.node_model.proofs.KnownLemmas.{Known, knows, known_lists, live_key}
use Rattle.node_model.proofs.LinkCellLemmas.{is_good_name}
use Rattle.node_model.proofs.EditKinds.{nested_kind, set_kind, sort_has_sig}
use Rattle.node_model.proofs.KnownLists.{added_known, enclosing_known, list_known, one_live, owned_known}

leave_known : (n : Nodes) (t : Token) (ks : List Key) → list_all (knows n) ks ≡ true → Known n (leave_walk t ks)
leave_known n t ks all = known_lists n ks _ all (λ lists. tt)

remove_known : (n : Nodes) (owner t : Token) → list_all (is_live_row n) (owner_rows owner ++ t ∷ []) ≡ true → has_list owner t.table ≡ true → Known n (remove_walk n owner t)
remove_known n owner t live has = by_table (t.table == nested_class) refl
  where
    parts : (list_all (is_live_row n) (owner_rows owner) ≡ true) × (list_all (is_live_row n) (t ∷ []) ≡ true)
    parts = and_parts (list_all (is_live_row n) (owner_rows owner)) (list_all (is_live_row n) (t ∷ [])) (sym (list_all-append (is_live_row n) (owner_rows owner) (t ∷ [])) ∙ live)

    first : knows n (list_key owner t.table) ≡ true
    first = list_known n owner t.table parts.0 has

    by_table : (x : Bool) → (t.table == nested_class) ≡ x → Known n (if x
        then Asks (Row t) (λ row. leave_walk t (list_key owner t.table ∷ enclosing_lists n t.table row.cells))
        else leave_walk t (list_key owner t.table ∷ []))
    by_table true is = (
      live_key n (Row t) (one_live n t parts.1) (nested_kind t.table is),
      λ row. leave_known n t (list_key owner t.table ∷ enclosing_lists n t.table row.cells) (rw (first, enclosing_known n t.table row.cells) refl),
    )
    by_table false is = leave_known n t (list_key owner t.table ∷ []) (rw first refl)

add_known : (n : Nodes) (table : ℕ) (cs : List Cell) (sig : OptSig) → Passed n (edits.Add table cs sig) → list_all (knows n) (added_lists table cs) ≡ true
add_known n table cs sig passed =
    let names = cells_name (row_placed table cs) in
    let all = found_none (is_bad_name n) (names ++ opt_sig_names sig) passed.names in
    added_known n table cs (and_parts (list_all (is_good_name n) names) (list_all (is_good_name n) (opt_sig_names sig))
    (sym (list_all-append (is_good_name n) names (opt_sig_names sig)) ∙ all)).0

code_known : (n : Nodes) (t : Token) → list_all (is_live_row n) (t ∷ []) ≡ true → has_kind (Body t) ≡ true → knows n (Body t) ≡ true
code_known n t live kind = live_key n (Body t) (one_live n t live) kind

known_passed : (n : Nodes) (e : Edit) → Passed n e → Known n (edit_walk n e)
unfolding edit_walk
known_passed n (edits.Set t column cell) passed =
    (live_key n (Row t) (one_live n t passed.rows) (set_kind t.table column cell (told_none (list_any may_set (set_placed t.table column cell)) column passed.fits)), λ row. tt)
known_passed n (edits.SetSig t sig) passed =
    (live_key n (Sig t) (one_live n t passed.rows) (sort_has_sig t.table sig (told_none (sort_fits t.table sig) 0 passed.fits)), λ old. tt)
known_passed n (edits.SetBody t body) passed = (code_known n t passed.rows (told_none (has_kind (Body t)) 0 passed.fits), λ old. tt)
known_passed n (edits.SetData t bytes) passed = (live_key n (Data t) (one_live n t passed.rows) (told_none (has_kind (Data t)) 0 passed.fits), λ old. tt)
known_passed n (edits.SetResource t value) passed =
    (live_key n (Resource t) (one_live n t passed.rows) (told_none (has_kind (Resource t)) 0 passed.fits), λ old. tt)
known_passed n (edits.SetEntry t) passed = (refl, λ facts. tt)
known_passed n (edits.Add table cs sig) passed = known_lists n (added_lists table cs) _ (add_known n table cs sig passed) (λ lists. tt)
known_passed n (edits.Insert owner table at cs sig) passed =
    (owned_known n owner table passed.rows (row_fits (has_kind (Owned owner table)) table cs sig passed.fits).stands, λ ts. tt)
known_passed n (edits.Remove owner t) passed = remove_known n owner t passed.rows (told_none (has_list owner t.table) 0 passed.fits)
known_passed n (edits.IlInsert t at instr) passed = (code_known n t passed.rows (told_none (has_kind (Body t)) 0 passed.fits), λ body. tt)
known_passed n (edits.IlRemove t at) passed = (code_known n t passed.rows (told_none (has_kind (Body t)) 0 passed.fits), λ body. tt)
known_passed n (edits.IlReplace t at instr) passed = (code_known n t passed.rows (told_none (has_kind (Body t)) 0 passed.fits), λ body. tt)
known_passed n (edits.IlHead t max_stack init_locals locals) passed = (code_known n t passed.rows (told_none (has_kind (Body t)) 0 passed.fits), λ body. tt)
known_passed n (edits.AddHandler t handler) passed = (code_known n t passed.rows (told_none (has_kind (Body t)) 0 passed.fits), λ body. tt)
known_passed n (edits.RemoveHandler t at) passed = (code_known n t passed.rows (told_none (has_kind (Body t)) 0 passed.fits), λ body. tt)

pub edit_known : (n : Nodes) (e : Edit) → early_refusal n e ≡ None → Known n (edit_walk n e)
edit_known n e early = known_passed n e (passed n e early)
