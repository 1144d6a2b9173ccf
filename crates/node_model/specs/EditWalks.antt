-- The keys that each edit looks at, in order, and what it then changes; or why it is refused by what it saw.
use Rattle.std.specs.Prelude.{ℕ, Bool, List, [], ◌∷◌, Option, None, Ok, ◌==◌, if◌then◌else◌}
use Rattle.cil_base.specs.Token.{Token}
use Rattle.il_code.specs.Body.{Body as BodyOf}
use Rattle.il_code.specs.Edited.{add_handler_refusal, insert_refusal, remove_handler_refusal, remove_refusal}
use Rattle.il_code.specs.Edited.{replace_refusal, with_handler, with_instr, with_instr_for, without_handler}
use Rattle.il_code.specs.Edited.{without_instr}
use Rattle.il_code.specs.declared.il_refusal.IlRefusal.{IlRefusal}
use Rattle.md_schema.specs.Tables.{nested_class}
use Rattle.node_model.specs.Changes.{Changing, body_put, cell_put, code_edited, entry_put, new_row, puts}
use Rattle.node_model.specs.Changes.{row_added, row_inserted, row_removed}
use Rattle.node_model.specs.Nodes.{Nodes}
use Rattle.node_model.specs.RowLists.{added_lists, enclosing_lists, list_key}
use Rattle.node_model.specs.Walk.{Walk, Asks, Gives}
use Rattle.node_model.specs.declared.cell.Cell.{Cell}
use Rattle.node_model.specs.declared.edit.Edit.{Edit}
use Rattle.node_model.specs.declared.edit.Edit.TheVariants as edits
use Rattle.node_model.specs.declared.edit.OptSig.{OptSig}
use Rattle.node_model.specs.declared.key.Key.{Key}
use Rattle.node_model.specs.declared.key.Key.TheVariants.{Row, Sig, Owned, Linked, Body, Data, Resource, Facts}
use Rattle.node_model.specs.declared.value.Value.TheVariants as values

-- a list of rows is looked at; a key that is no list has no rows
abbrev pub asks_list : {R : Type 0} → Key → (List Token → Walk R) → Walk R
asks_list (Owned t n) f = Asks (Owned t n) f
asks_list (Linked t l) f = Asks (Linked t l) f
asks_list _ f = f []

-- lists of rows are looked at, one after the other
abbrev pub asks_lists : {R : Type 0} → List Key → (List (Key × List Token) → Walk R) → Walk R
asks_lists [] f = f []
asks_lists (k ∷ ks) f = asks_list k (λ ts. asks_lists ks (λ rest. f ((k, ts) ∷ rest)))

-- a new row is the last in the lists in which it stands
abbrev pub add_walk : Nodes → ℕ → List Cell → OptSig → Walk Changing
add_walk n table cells sig =
    asks_lists (added_lists table cells) (λ lists. Gives (Ok (row_added (new_row n table cells) sig lists)))

-- a row leaves these lists
abbrev pub leave_walk : Token → List Key → Walk Changing
leave_walk t ks = asks_lists ks (λ lists. Gives (row_removed t lists))

-- a row leaves its owner's list; a NestedClass row leaves the list of its EnclosingClass too, which its row names
abbrev pub remove_walk : Nodes → Token → Token → Walk Changing
remove_walk n owner t =
    if t.table == nested_class
    then Asks (Row t) (λ row. leave_walk t (list_key owner t.table ∷ enclosing_lists n t.table row.cells))
    else leave_walk t (list_key owner t.table ∷ [])

-- the body of a method is edited
abbrev pub code_walk : Token → (BodyOf → Option IlRefusal) → (BodyOf → BodyOf) → Walk Changing
code_walk t refused made = Asks (Body t) (λ body. Gives (code_edited t refused made body))

-- what the header of a body says (ECMA-335 II.25.4.3)
abbrev pub with_head : ℕ → Bool → Token → BodyOf → BodyOf
with_head max_stack init_locals locals body = record {
  max_stack = max_stack;
  init_locals = init_locals;
  locals = locals;
  code = body.code;
  handlers = body.handlers;
}

-- of an edit that is not refused before
unfoldable pub edit_walk : Nodes → Edit → Walk Changing
edit_walk n (edits.Set t column cell) = Asks (Row t) (λ row. Gives (Ok (cell_put t column cell row)))
edit_walk n (edits.SetSig t sig) = Asks (Sig t) (λ old. Gives (Ok (puts (Sig t) (values.Sig sig))))
edit_walk n (edits.SetBody t body) = Asks (Body t) (λ old. Gives (body_put t body))
edit_walk n (edits.SetData t bytes) = Asks (Data t) (λ old. Gives (Ok (puts (Data t) (values.Data bytes))))
edit_walk n (edits.SetResource t value) =
    Asks (Resource t) (λ old. Gives (Ok (puts (Resource t) (values.Resource value))))
edit_walk n (edits.SetEntry t) = Asks Facts (λ facts. Gives (Ok (entry_put t facts)))
edit_walk n (edits.Add table cells sig) = add_walk n table cells sig
edit_walk n (edits.Insert owner table at cells sig) =
    Asks (Owned owner table) (λ ts. Gives (row_inserted (new_row n table cells) sig (Owned owner table) at ts))
edit_walk n (edits.Remove owner t) = remove_walk n owner t
edit_walk n (edits.IlInsert t at instr) = code_walk t (insert_refusal at instr) (with_instr at instr)
edit_walk n (edits.IlRemove t at) = code_walk t (remove_refusal at) (without_instr at)
edit_walk n (edits.IlReplace t at instr) = code_walk t (replace_refusal at instr) (with_instr_for at instr)
edit_walk n (edits.IlHead t max_stack init_locals locals) =
    code_walk t (λ body. None) (with_head max_stack init_locals locals)
edit_walk n (edits.AddHandler t handler) = code_walk t (add_handler_refusal handler) (with_handler handler)
edit_walk n (edits.RemoveHandler t at) = code_walk t (remove_handler_refusal at) (without_handler at)
