-- Edits of bodies, and what the keys of new rows begin with, worked by hand, so that another place, another order of the refusals or another body does not check.
use Rattle.std.proofs.Common.{◌≡◌, refl}
use Rattle.std.specs.Prelude.{ℕ, true, List, [], ◌∷◌, codes, Some, Ok, Err, ◌==◌, if◌then◌else◌}
use Rattle.cil_base.specs.Token.{root}
use Rattle.il_code.specs.Code.{instr_of}
use Rattle.il_code.specs.declared.operand.Operand.TheVariants as operands
use Rattle.md_schema.specs.Schema.{tables}
use Rattle.sig_tree.specs.Printed.{chars}
use Rattle.sig_tree.specs.declared.tree.TypeSig.TheVariants.{Prim}
use Rattle.node_model.specs.Changes.{changed_slot}
use Rattle.node_model.specs.ColumnFit.{bad_row}
use Rattle.node_model.specs.EditAnswers.{edit_answer, edit_reach}
use Rattle.node_model.specs.EditRefusals.{early_refusal}
use Rattle.node_model.specs.EditWalks.{edit_walk}
use Rattle.node_model.specs.Fresh.{fresh_slot}
use Rattle.node_model.specs.Graph.{Graph, edit_changing, edited}
use Rattle.node_model.specs.KeyKinds.{has_sig, is_root_table, may_link, owns_table}
use Rattle.node_model.specs.Lists.{tokens_slot}
use Rattle.node_model.specs.Look.{look}
use Rattle.node_model.specs.RowLists.{added_lists, added_table, enclosing_lists, list_key}
use Rattle.node_model.specs.declared.cell.Cell.{Cell}
use Rattle.node_model.specs.declared.cell.Cell.TheVariants as cells
use Rattle.node_model.specs.declared.edit.Edit.TheVariants.{Add, IlRemove, SetBody, IlInsert, IlReplace, IlHead, AddHandler}
use Rattle.node_model.specs.declared.edit.OptSig.TheVariants as sigs
use Rattle.node_model.specs.declared.edit_refusal.EditRefusal.TheVariants as refusals
use Rattle.node_model.specs.declared.key.Key.TheVariants.{Row, Sig, Owned, Body, Resource}
use Rattle.node_model.specs.declared.look.Look.TheVariants as looks
use Rattle.node_model.specs.declared.slot.Slot.TheVariants as slots
use Rattle.node_model.specs.declared.value.BodyValue.TheVariants.{NoBody, Il}
use Rattle.node_model.specs.declared.value.ResourceValue.TheVariants.{Here, Elsewhere}
use Rattle.node_model.specs.declared.value.Value.TheVariants as values
use Rattle.il_code.specs.Edited.{add_handler_refusal, insert_refusal, replace_refusal, with_handler, with_instr, with_instr_for}
use Rattle.il_code.specs.Instructions.{kind_of}
use Rattle.node_model.proofs.EditFacts.{type, method, row_of, small, go_sig, go_tokens, go_cells, insert_go, ret, body_of, empty_body, backwards, with_method, with_body, small_rows, small_held}

pub method_begins :
    (edit_answer small (insert_go (type 1) 0) ≡ Ok (Some (method 1)))
    × (look (edited small (insert_go (type 1) 0)) (Owned (type 1) 0x06) ≡ looks.Slot (tokens_slot (method 1 ∷ [])))
    × (look (edited small (insert_go (type 1) 0)) (Row (method 1)) ≡ looks.Slot (row_of (method 1) go_cells))
    × (look (edited small (insert_go (type 1) 0)) (Sig (method 1)) ≡ looks.Slot (slots.Value (values.Sig go_sig)))
    × (look (edited small (insert_go (type 1) 0)) (Body (method 1)) ≡ looks.Slot (slots.Value (values.Body NoBody)))
    × (look (edited small (insert_go (type 1) 0)) (Owned (method 1) 0x08) ≡ looks.Slot (tokens_slot []))
unfolding edited edit_reach edit_changing early_refusal edit_walk tables bad_row list_key enclosing_lists added_lists added_table owns_table is_root_table has_sig may_link changed_slot fresh_slot chars
method_begins = rw go_tokens (refl, refl, refl, refl, refl, refl)

pub body_is_made :
    (look (edited with_method (SetBody (method 1) (Il empty_body))) (Body (method 1)) ≡ looks.Slot (slots.Value (values.Body (Il empty_body))))
    × (look (edited with_body (IlInsert (method 1) 0 ret)) (Body (method 1)) ≡ looks.Slot (slots.Value (values.Body (Il (body_of (ret ∷ ret ∷ []) [])))))
    × (edit_reach with_body (IlRemove (method 1) 0) ≡ Body (method 1) ∷ [])
unfolding insert_refusal with_instr kind_of edited edit_reach edit_changing early_refusal edit_walk tables bad_row list_key enclosing_lists added_lists added_table owns_table is_root_table has_sig may_link changed_slot fresh_slot chars
body_is_made = (refl, refl, refl)

-- a place that is beyond, before an instruction that is not sound; a method without a body; an instruction, before a handler
pub refused_by_code :
    (edit_answer with_body (IlReplace (method 1) 1 (instr_of 0x2A (operands.U8 0))) ≡ Err (refusals.PlaceBeyond 1 1))
    × (edit_answer with_method (IlRemove (method 1) 0) ≡ Err (refusals.NotThere (method 1)))
    × (edit_answer with_body (SetBody (method 1) (Il (body_of (ret ∷ instr_of 0x2A (operands.U8 0) ∷ []) (backwards ∷ [])))) ≡ Err (refusals.BadCode 1))
    × (edit_answer with_body (SetBody (method 1) (Il (body_of (ret ∷ []) (backwards ∷ [])))) ≡ Err (refusals.BadHandler 0))
    × (edit_answer with_body (AddHandler (method 1) backwards) ≡ Err (refusals.BadHandler 0))
unfolding replace_refusal with_instr_for add_handler_refusal with_handler kind_of edited edit_reach edit_changing early_refusal edit_walk tables bad_row list_key enclosing_lists added_lists added_table owns_table is_root_table has_sig may_link changed_slot fresh_slot chars
refused_by_code = (refl, refl, refl, refl, refl)

-- the head of a body; a method without one has none
pub heads :
    (look (edited with_body (IlHead (method 1) 2 true root)) (Body (method 1))
    ≡ looks.Slot (slots.Value (values.Body (Il (record { max_stack = 2; init_locals = true; locals = root; code = ret ∷ []; handlers = [] })))))
    × (edit_answer with_method (IlHead (method 1) 2 true root) ≡ Err (refusals.NotThere (method 1)))
    × (edit_answer with_body (IlHead (method 1) 2 true (type 1)) ≡ Err (refusals.BadRef (type 1)))
unfolding edited edit_reach edit_changing early_refusal edit_walk tables bad_row list_key enclosing_lists added_lists added_table owns_table is_root_table has_sig may_link changed_slot fresh_slot chars
heads = (refl, refl, refl)

abbrev resource_cells : Cell → List Cell
resource_cells implementation = cells.Num 1 ∷ cells.Text (codes "r") ∷ implementation ∷ []

-- a new resource is here, or elsewhere where its Implementation names something
abbrev file_rows : ℕ → ℕ
file_rows t = if t == 0x26 then 1 else small_rows t

abbrev with_file : Graph
with_file = record { nodes = record { rows = file_rows; removed = [] }; held = small_held }

pub resources_begin :
    (look (edited small (Add 0x28 (resource_cells cells.NoRef) sigs.None)) (Resource (record { table = 0x28; rid = 1 })) ≡ looks.Slot (slots.Value (values.Resource (Here []))))
    × (look (edited with_file (Add 0x28 (resource_cells (cells.Ref (record { table = 0x26; rid = 1 }))) sigs.None)) (Resource (record { table = 0x28; rid = 1 })) ≡ looks.Slot (slots.Value (values.Resource (Elsewhere 0))))
unfolding edited edit_reach edit_changing early_refusal edit_walk tables bad_row list_key enclosing_lists added_lists added_table owns_table is_root_table has_sig may_link changed_slot fresh_slot chars
resources_begin = (refl, refl)
