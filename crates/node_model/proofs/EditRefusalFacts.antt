-- Refusals of edits of rows worked by hand, each where the next one holds too, so that another order or another number does not check.
use Rattle.std.proofs.Common.{◌≡◌, refl}
use Rattle.std.specs.Prelude.{false, [], ◌∷◌, map, Some, None, Ok, Err}
use Rattle.cil_base.specs.Token.{root}
use Rattle.md_schema.specs.Schema.{tables}
use Rattle.sig_tree.specs.Printed.{chars}
use Rattle.sig_tree.specs.declared.tree.TypeSig.TheVariants.{Prim}
use Rattle.node_model.specs.Changes.{changed_slot}
use Rattle.node_model.specs.ColumnFit.{bad_row}
use Rattle.node_model.specs.EditAnswers.{edit_answer, edit_reach}
use Rattle.node_model.specs.EditRefusals.{early_refusal}
use Rattle.node_model.specs.EditWalks.{edit_walk}
use Rattle.node_model.specs.Fresh.{fresh_slot}
use Rattle.node_model.specs.Graph.{edit_changing, edited}
use Rattle.node_model.specs.KeyKinds.{has_sig, is_root_table, may_link, owns_table}
use Rattle.node_model.specs.Lists.{tokens_slot}
use Rattle.node_model.specs.Look.{look}
use Rattle.node_model.specs.RowLists.{added_lists, added_table, enclosing_lists, has_list, list_key}
use Rattle.node_model.specs.declared.cell.Cell.TheVariants as cells
use Rattle.node_model.specs.declared.edit.Edit.TheVariants.{Set, SetSig, SetEntry, Add, Insert, Remove}
use Rattle.node_model.specs.declared.edit.OptSig.TheVariants as sigs
use Rattle.node_model.specs.declared.edit_refusal.EditRefusal.TheVariants as refusals
use Rattle.node_model.specs.declared.key.Key.TheVariants.{Owned, Facts}
use Rattle.node_model.specs.declared.look.Look.TheVariants as looks
use Rattle.node_model.specs.declared.slot.Slot.TheVariants as slots
use Rattle.node_model.specs.declared.value.Value.TheVariants as values
use Rattle.node_model.proofs.EditFacts.{type, method, events, nesting, small_facts, small, go_sig, field_sig, type_cells, go_cells, insert_go, insert_param, remove_type, bad_list, crowded, nested, with_body}

-- each refusal that is tried before a key is looked at, where the next one holds too
pub refused_in_order : map (edit_answer crowded) (
    Remove (type 1) (record { table = 0x04; rid = 9 })
    ∷ SetSig (type 1) field_sig
    ∷ Add 0x02 (cells.Num 4294967296 ∷ cells.Num 1 ∷ []) sigs.None
    ∷ Add 0x02 (cells.Num 4294967296 ∷ cells.Text (0 ∷ []) ∷ cells.Text [] ∷ cells.NoRef ∷ []) sigs.None
    ∷ Add 0x02 (cells.Num 0 ∷ cells.Text (0 ∷ []) ∷ cells.Text [] ∷ cells.Ref (type 1) ∷ []) sigs.None
    ∷ Add 0x02 (cells.Num 0 ∷ cells.Text [] ∷ cells.Text [] ∷ cells.Ref (type 1) ∷ []) sigs.None
    ∷ insert_param 1
    ∷ Insert events 0x14 1 (cells.Num 0 ∷ cells.Text [] ∷ cells.NoRef ∷ []) sigs.None ∷ [])
    ≡ Err (refusals.Absent (record { table = 0x04; rid = 9 }))
    ∷ Err (refusals.Removed (type 1))
    ∷ Err (refusals.BadColumn 1)
    ∷ Err (refusals.NumberTooWide 4294967296 4294967295)
    ∷ Err (refusals.BadText 0)
    ∷ Err (refusals.BadRef (type 1))
    ∷ Err (refusals.TableFull 16777215)
    ∷ Err (refusals.Reached bad_list) ∷ []
unfolding edited edit_reach edit_changing early_refusal edit_walk tables bad_row list_key enclosing_lists added_lists added_table owns_table is_root_table has_sig may_link changed_slot fresh_slot chars
refused_in_order = refl

-- what is told of cells, of their number, of a table that owners list, and of a signature alone
pub misfits_told : map (edit_answer small) (
    Add 0x02 (cells.Num 0 ∷ []) sigs.None
    ∷ Add 0x02 (cells.Num 0 ∷ cells.Text [] ∷ cells.Text [] ∷ cells.NoRef ∷ cells.Num 0 ∷ []) sigs.None
    ∷ Add 0x06 (cells.Num 0 ∷ []) (sigs.Is go_sig)
    ∷ Add 0x06 go_cells (sigs.Is go_sig)
    ∷ insert_go root 0
    ∷ Insert (type 1) 0x06 0 go_cells (sigs.Is field_sig)
    ∷ Insert (type 1) 0x06 0 go_cells sigs.None
    ∷ Add 0x02 (type_cells [] []) (sigs.Is field_sig)
    ∷ Set (type 1) 4 (cells.Num 1)
    ∷ Set (type 1) 0 cells.NoRef
    ∷ Remove root (type 1) ∷ [])
    ≡ Err (refusals.BadColumn 1) ∷ Err (refusals.BadColumn 4) ∷ Err (refusals.BadColumn 1) ∷ Err (refusals.BadColumn 0) ∷ Err (refusals.BadColumn 0)
    ∷ Err (refusals.BadColumn 3) ∷ Err (refusals.BadColumn 3) ∷ Err (refusals.BadColumn 4) ∷ Err (refusals.BadColumn 4) ∷ Err (refusals.BadColumn 0)
    ∷ Ok None ∷ []
unfolding edited edit_reach edit_changing early_refusal edit_walk tables bad_row list_key enclosing_lists added_lists added_table owns_table is_root_table has_sig may_link changed_slot fresh_slot chars
misfits_told = refl

-- link columns are not set, a null link is refused, a root list has a new row at a place, and a second module has no room
pub links_and_root :
    (edit_answer nested (Set nesting 0 (cells.Ref (type 1))) ≡ Err (refusals.BadColumn 0))
    × (edit_answer nested (Add 0x29 (cells.Ref (type 1) ∷ cells.NoRef ∷ []) sigs.None) ≡ Err (refusals.BadRef root))
    × (edit_answer nested (Remove root nesting) ≡ Err (refusals.BadColumn 0))
    × (has_list root 0x0c ≡ false)
    × (look (edited small (Insert root 0x02 0 (type_cells [] []) sigs.None)) (Owned root 0x02) ≡ looks.Slot (tokens_slot (type 2 ∷ type 1 ∷ [])))
    × (edit_answer small (Add 0x00 (cells.Num 0 ∷ cells.Text [] ∷ cells.NoGuid ∷ cells.NoGuid ∷ cells.NoGuid ∷ []) sigs.None) ≡ Err (refusals.TableFull 1))
    × (edit_answer (edited small (remove_type 1)) (Add 0x02 (type_cells [] []) sigs.None) ≡ Ok (Some (type 2)))
unfolding edited edit_reach edit_changing early_refusal edit_walk tables bad_row list_key enclosing_lists added_lists added_table owns_table is_root_table has_sig may_link changed_slot fresh_slot chars
links_and_root = (refl, refl, refl, refl, refl, refl, refl)

-- the entry point: a method, or none, and no type; it is among the facts
pub entry_points :
    (edit_answer with_body (SetEntry (method 1)) ≡ Ok None)
    × (edit_answer small (SetEntry root) ≡ Ok None)
    × (edit_answer small (SetEntry (type 1)) ≡ Err (refusals.BadRef (type 1)))
    × (look (edited with_body (SetEntry (method 1))) Facts ≡ looks.Slot (slots.Value (values.Facts (small_facts (method 1)))))
    × (edit_reach with_body (SetEntry (method 1)) ≡ Facts ∷ [])
unfolding edited edit_reach edit_changing early_refusal edit_walk tables bad_row list_key enclosing_lists added_lists added_table owns_table is_root_table has_sig may_link changed_slot fresh_slot chars
entry_points = (refl, refl, refl, refl, refl)
