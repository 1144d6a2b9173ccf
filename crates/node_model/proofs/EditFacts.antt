-- Edits worked by hand over the graph of an image with a module and one type, so that a wrong order of the refusals, a wrong list or a wrong place does not check.
use Rattle.std.proofs.Common.{◌≡◌, ◌∙◌, ap, refl}
use Rattle.std.specs.Prelude.{ℕ, true, false, List, [], ◌∷◌, ◌++◌, map, codes, Some, None, Ok, Err, ◌==◌, ◌||◌, ◌&&◌, if◌then◌else◌}
use Rattle.cil_base.specs.Token.{Token, root}
use Rattle.il_code.specs.Body.{Body as BodyOf}
use Rattle.il_code.specs.Code.{instr_of}
use Rattle.il_code.specs.declared.handler.Handler.{Handler}
use Rattle.il_code.specs.declared.handler.HandlerKind.TheVariants.{Finally}
use Rattle.il_code.specs.declared.instr.Instr.{Instr}
use Rattle.il_code.specs.declared.operand.Operand.TheVariants as operands
use Rattle.md_schema.specs.Schema.{tables}
use Rattle.md_schema.specs.declared.link.Link.TheVariants.{NestedClass, Nested}
use Rattle.pe_image.specs.declared.facts.Facts.{Facts as FactsOf}
use Rattle.sig_tree.proofs.TokenRows.{method_row, tokens-Prim}
use Rattle.sig_tree.specs.Printed.{chars, tokens}
use Rattle.sig_tree.specs.declared.tree.MethodSig.{MethodSig}
use Rattle.sig_tree.specs.declared.tree.Arity.TheVariants as arities
use Rattle.sig_tree.specs.declared.tree.Sentinel.TheVariants as sentinels
use Rattle.sig_tree.specs.declared.tree.SigTree.{SigTree}
use Rattle.sig_tree.specs.declared.tree.SigTree.TheVariants as sorts
use Rattle.sig_tree.specs.declared.tree.TypeSig.TheVariants.{Prim}
use Rattle.node_model.specs.Changes.{changed_slot}
use Rattle.node_model.specs.ColumnFit.{bad_row}
use Rattle.node_model.specs.EditAnswers.{all_done, edit_answer, edit_reach, edits_reach}
use Rattle.node_model.specs.EditNeeds.{edit_needs}
use Rattle.node_model.specs.EditRefusals.{early_refusal}
use Rattle.node_model.specs.EditWalks.{edit_walk}
use Rattle.node_model.specs.Fresh.{fresh_slot}
use Rattle.node_model.specs.Graph.{Graph, edit_changing, edited}
use Rattle.node_model.specs.Keys.{same_key}
use Rattle.node_model.specs.KeyKinds.{has_sig, is_root_table, may_link, owns_table}
use Rattle.node_model.specs.Lists.{tokens_slot}
use Rattle.node_model.specs.Look.{look}
use Rattle.node_model.specs.Questions.{early_reply, query_walk}
use Rattle.node_model.specs.Replies.{reply}
use Rattle.node_model.specs.RowLists.{added_lists, added_table, enclosing_lists, list_key}
use Rattle.node_model.specs.declared.cell.Cell.{Cell}
use Rattle.node_model.specs.declared.cell.Cell.TheVariants as cells
use Rattle.node_model.specs.declared.edit.Edit.{Edit}
use Rattle.node_model.specs.declared.edit.Edit.TheVariants.{Set, SetSig, Add, Insert, Remove, IlRemove}
use Rattle.node_model.specs.declared.edit.OptSig.TheVariants as sigs
use Rattle.node_model.specs.declared.edit_refusal.EditRefusal.TheVariants as refusals
use Rattle.node_model.specs.declared.key.Key.{Key}
use Rattle.node_model.specs.declared.key.Key.TheVariants.{Row, Sig, Owned, Linked, Body, Data, Resource, Facts}
use Rattle.node_model.specs.declared.look.Look.TheVariants as looks
use Rattle.node_model.specs.declared.query.Query.TheVariants as queries
use Rattle.node_model.specs.declared.reply.Reply.TheVariants as replies
use Rattle.node_model.specs.declared.slot.Fault.{Fault}
use Rattle.node_model.specs.declared.slot.FaultKind.TheVariants.{BadRange}
use Rattle.node_model.specs.declared.slot.Slot.{Slot}
use Rattle.node_model.specs.declared.slot.Slot.TheVariants as slots
use Rattle.node_model.specs.declared.value.BodyValue.TheVariants.{NoBody, Il}
use Rattle.node_model.specs.declared.value.ResourceValue.TheVariants.{Here}
use Rattle.node_model.specs.declared.value.Value.TheVariants as values

abbrev pub type : ℕ → Token
type n = record { table = 0x02; rid = n }

abbrev pub method : ℕ → Token
method n = record { table = 0x06; rid = n }

abbrev pub events : Token
events = record { table = 0x12; rid = 1 }

abbrev pub nesting : Token
nesting = record { table = 0x29; rid = 1 }

-- one row of Module and one of TypeDef
abbrev pub small_rows : ℕ → ℕ
small_rows t = if (t == 0x00) || (t == 0x02) then 1 else 0

abbrev pub row_of : Token → List Cell → Slot
row_of t cs = slots.Value (values.Row (record { token = t; cells = cs }))

-- facts with an entry point
abbrev pub small_facts : Token → FactsOf
small_facts t = record {
  plus = false;
  machine = 0x14c;
  time = 0;
  characteristics = 0x2102;
  base = 0x400000;
  subsystem = 3;
  dll = 0x8540;
  runtime_major = 2;
  runtime_minor = 5;
  flags = 1;
  native = false;
  entry = t;
  version = codes "v4.0.30319";
}

-- what the keys of the type, and the root's lists, hold
abbrev pub small_held : Key → Slot
small_held (Row t) = row_of t (cells.Num 0 ∷ cells.Text (codes "<Module>") ∷ cells.Text [] ∷ cells.NoRef ∷ [])
small_held (Owned t n) = tokens_slot (if (t.rid == 0) && (n == 0x02) then type 1 ∷ [] else [])
small_held (Linked t l) = tokens_slot []
small_held (Sig t) = slots.Value (values.Sig (sorts.Field (Prim 0x08)))
small_held (Body t) = slots.Value (values.Body NoBody)
small_held (Data t) = slots.Value (values.Data [])
small_held (Resource t) = slots.Value (values.Resource (Here []))
small_held Facts = slots.Value (values.Facts (small_facts root))

abbrev pub small : Graph
small = record { nodes = record { rows = small_rows; removed = [] }; held = small_held }

-- a graph in which one key holds something else
abbrev but : Key → Slot → (Key → Slot) → Key → Slot
but k s held q = if same_key q k then s else held q

-- a signature of no parameters and no value, and one of a field
abbrev go_method : MethodSig
go_method = record { kind = 0; this = false; explicit = false; arity = arities.Plain; ret = Prim 0x01; params = []; sentinel = sentinels.None }

abbrev pub go_sig : SigTree
go_sig = sorts.Method go_method

abbrev pub field_sig : SigTree
field_sig = sorts.Field (Prim 0x08)

-- the first names no type
pub go_tokens : tokens go_sig ≡ []
go_tokens = method_row go_method ∙ ap (λ ts. ts ++ []) (tokens-Prim 0x01)

-- a row of TypeDef, and one of MethodDef
abbrev pub type_cells : List ℕ → List ℕ → List Cell
type_cells name namespace = cells.Num 1 ∷ cells.Text name ∷ cells.Text namespace ∷ cells.NoRef ∷ []

abbrev add_type : List ℕ → List ℕ → Edit
add_type name namespace = Add 0x02 (type_cells name namespace) sigs.None

abbrev pub go_cells : List Cell
go_cells = cells.Num 0 ∷ cells.Num 22 ∷ cells.Text (codes "Go") ∷ []

abbrev pub insert_go : Token → ℕ → Edit
insert_go owner at = Insert owner 0x06 at go_cells (sigs.Is go_sig)

-- a parameter of a method
abbrev pub insert_param : ℕ → Edit
insert_param at = Insert (method 1) 0x08 at (cells.Num 0 ∷ cells.Num 1 ∷ cells.Text [] ∷ []) sigs.None

abbrev pub remove_type : ℕ → Edit
remove_type n = Remove root (type n)

abbrev pub ret : Instr
ret = instr_of 0x2A operands.None

-- the bodies without locals
abbrev pub body_of : List Instr → List Handler → BodyOf
body_of code handlers = record { max_stack = 8; init_locals = false; locals = root; code = code; handlers = handlers }

abbrev pub empty_body : BodyOf
empty_body = body_of [] []

-- a protected range that ends before its start
abbrev pub backwards : Handler
backwards = record { kind = Finally; try_start = 1; try_end = 0; start = 0; end = 1 }

-- lists that are at fault, in an image whose types and parameters are as many as there may be and whose first type was removed
abbrev pub bad_list : Fault
bad_list = record { key = Owned events 0x14; kind = BadRange; column = 1 }

abbrev crowded_rows : ℕ → ℕ
crowded_rows t = if (t == 0x02) || (t == 0x08) then 16777215 else (if (t == 0x06) || (t == 0x12) then 1 else 0)

abbrev crowded_held : Key → Slot
crowded_held (Owned t n) = slots.Fault bad_list
crowded_held k = small_held k

abbrev pub crowded : Graph
crowded = record { nodes = record { rows = crowded_rows; removed = type 1 ∷ [] }; held = crowded_held }

-- a zero byte in a text, a number past its column, a signature of a type, a row that is none, a reference to none, and a row that
-- is removed; then a place past the end of a list
pub six_answers : map (edit_answer small) (
    Set (type 1) 1 (cells.Text (97 ∷ 0 ∷ 98 ∷ []))
    ∷ Set (type 1) 0 (cells.Num 4294967296)
    ∷ SetSig (type 1) field_sig
    ∷ remove_type 9
    ∷ Set (type 1) 3 (cells.Ref (record { table = 0x01; rid = 1 }))
    ∷ remove_type 1 ∷ [])
    ≡ Err (refusals.BadText 1)
    ∷ Err (refusals.NumberTooWide 4294967296 4294967295)
    ∷ Err (refusals.BadColumn 0)
    ∷ Err (refusals.Absent (type 9))
    ∷ Err (refusals.BadRef (record { table = 0x01; rid = 1 }))
    ∷ Ok None ∷ []
unfolding edited edit_reach edit_changing early_refusal edit_walk tables bad_row list_key enclosing_lists added_lists added_table owns_table is_root_table has_sig may_link changed_slot fresh_slot chars
six_answers = refl

pub go_answer : (edit_answer small (insert_go (type 1) 1) ≡ Err (refusals.PlaceBeyond 1 0))
    × (edit_reach small (insert_go (type 1) 1) ≡ Owned (type 1) 0x06 ∷ [])
unfolding edited edit_reach edit_changing early_refusal edit_walk tables bad_row list_key enclosing_lists added_lists added_table owns_table is_root_table has_sig may_link changed_slot fresh_slot chars
go_answer = rw go_tokens (refl, refl)

-- the keys that the last of these looks at, and that the first looks at none
pub six_reaches : map (edit_reach small) (Set (type 1) 1 (cells.Text (97 ∷ 0 ∷ 98 ∷ [])) ∷ remove_type 1 ∷ [])
    ≡ [] ∷ (Owned root 0x02 ∷ []) ∷ []
unfolding edited edit_reach edit_changing early_refusal edit_walk tables bad_row list_key enclosing_lists added_lists added_table owns_table is_root_table has_sig may_link changed_slot fresh_slot chars
six_reaches = refl

-- a removed row answers no more, and is not removed again; a row that is none is absent
pub removed_answers :
    (reply (edited small (remove_type 1)) 0 (queries.Row (type 1)) ≡ replies.Removed (type 1))
    × (reply small 0 (queries.Row (type 9)) ≡ replies.Absent (type 9))
    × (edit_answer (edited small (remove_type 1)) (remove_type 1) ≡ Err (refusals.Removed (type 1)))
    × (look (edited small (remove_type 1)) (Owned root 0x02) ≡ looks.Slot (tokens_slot []))
unfolding reply early_reply query_walk edited edit_reach edit_changing early_refusal edit_walk tables bad_row list_key enclosing_lists added_lists added_table owns_table is_root_table has_sig may_link changed_slot fresh_slot chars
removed_answers = (refl, refl, refl, refl)

-- a name that is set is seen, and nothing else of the row is changed
pub renamed : (edit_answer small (Set (type 1) 1 (cells.Text (codes "X"))) ≡ Ok None)
    × (edit_reach small (Set (type 1) 1 (cells.Text (codes "X"))) ≡ Row (type 1) ∷ [])
    × (look (edited small (Set (type 1) 1 (cells.Text (codes "X")))) (Row (type 1))
    ≡ looks.Slot (row_of (type 1) (cells.Num 0 ∷ cells.Text (codes "X") ∷ cells.Text [] ∷ cells.NoRef ∷ [])))
unfolding edited edit_reach edit_changing early_refusal edit_walk tables bad_row list_key enclosing_lists added_lists added_table owns_table is_root_table has_sig may_link changed_slot fresh_slot chars
renamed = (refl, refl, refl)

-- three types, of which the third is nested in the second or not
abbrev nest : Edit
nest = Add 0x29 (cells.Ref (type 3) ∷ cells.Ref (type 2) ∷ []) sigs.None

abbrev three_rows : ℕ → ℕ
three_rows t = if t == 0x02 then 3 else small_rows t

abbrev three_types : Graph
three_types = record { nodes = record { rows = three_rows; removed = [] }; held = small_held }

abbrev nested_rows : ℕ → ℕ
nested_rows t = if t == 0x29 then 1 else three_rows t

abbrev pub nested : Graph
nested = record {
  nodes = record { rows = nested_rows; removed = [] };
  held = but (Row nesting) (row_of nesting (cells.Ref (type 3) ∷ cells.Ref (type 2) ∷ []))
      (but (Linked (type 3) NestedClass) (tokens_slot (nesting ∷ [])) (but (Linked (type 2) Nested) (tokens_slot (nesting ∷ [])) small_held));
}

abbrev unnested : Graph
unnested = edited nested (Remove (type 3) nesting)

-- a nesting stands in both lists
pub in_both_lists :
    (edit_answer three_types nest ≡ Ok (Some nesting))
    × (edit_reach three_types nest ≡ Linked (type 3) NestedClass ∷ Linked (type 2) Nested ∷ [])
    × (look (edited three_types nest) (Linked (type 2) Nested) ≡ looks.Slot (tokens_slot (nesting ∷ [])))
    × (look (edited three_types nest) (Linked (type 3) NestedClass) ≡ looks.Slot (tokens_slot (nesting ∷ [])))
    × (look (edited small (add_type (codes "Outer") (codes "N"))) (Owned root 0x02) ≡ looks.Slot (tokens_slot (type 1 ∷ type 2 ∷ [])))
unfolding reply early_reply query_walk edited edit_reach edit_changing early_refusal edit_walk tables bad_row list_key enclosing_lists added_lists added_table owns_table is_root_table has_sig may_link changed_slot fresh_slot chars
in_both_lists = (refl, refl, refl, refl, refl)

-- and leaves both when it is removed by the nested type
pub in_neither_list :
    (edit_answer nested (Remove (type 3) nesting) ≡ Ok None)
    × (edit_reach nested (Remove (type 3) nesting) ≡ Row nesting ∷ Linked (type 3) NestedClass ∷ Linked (type 2) Nested ∷ [])
    × (reply unnested 0 (queries.Links (type 2) Nested) ≡ replies.Tokens (Linked (type 2) Nested) [])
    × (reply unnested 0 (queries.Links (type 3) NestedClass) ≡ replies.Tokens (Linked (type 3) NestedClass) [])
    × (reply unnested 0 (queries.Row nesting) ≡ replies.Removed nesting)
    × (edit_answer unnested (Remove (type 3) nesting) ≡ Err (refusals.Removed nesting))
    × (edit_answer nested (Remove (type 2) nesting) ≡ Err (refusals.NotThere nesting))
unfolding reply early_reply query_walk edited edit_reach edit_changing early_refusal edit_walk tables bad_row list_key enclosing_lists added_lists added_table owns_table is_root_table has_sig may_link changed_slot fresh_slot chars
in_neither_list = (refl, refl, refl, refl, refl, refl, refl)

-- the keys that an edit's own words name: a nesting names both lists where it is added, and one where it is removed
pub needs_named :
    (edit_needs nest ≡ Linked (type 3) NestedClass ∷ Linked (type 2) Nested ∷ [])
    × (edit_needs (Remove (type 3) nesting) ≡ Row nesting ∷ Linked (type 3) NestedClass ∷ [])
    × (edit_needs (add_type [] []) ≡ Owned root 0x02 ∷ [])
    × (edit_needs (IlRemove (method 1) 0) ≡ Body (method 1) ∷ [])
unfolding added_lists list_key tables
needs_named = (refl, refl, refl, refl)

-- a method in the type, without a body, and with one
abbrev method_rows : ℕ → ℕ
method_rows t = if t == 0x06 then 1 else small_rows t

abbrev pub with_method : Graph
with_method = record { nodes = record { rows = method_rows; removed = [] }; held = small_held }

abbrev pub with_body : Graph
with_body = record {
  nodes = record { rows = method_rows; removed = [] };
  held = but (Body (method 1)) (slots.Value (values.Body (Il (body_of (ret ∷ []) [])))) small_held;
}

-- edits that are made together reach no key of a row that one of them makes, and none after one that is refused
pub reached_together :
    (edits_reach with_method (insert_param 0 ∷ Set (record { table = 0x08; rid = 1 }) 1 (cells.Num 2) ∷ []) ≡ Owned (method 1) 0x08 ∷ [])
    × (all_done with_method (insert_param 0 ∷ Set (record { table = 0x08; rid = 1 }) 1 (cells.Num 2) ∷ []) ≡ true)
    × (edits_reach small (remove_type 1 ∷ remove_type 1 ∷ Set (type 1) 0 (cells.Num 1) ∷ []) ≡ Owned root 0x02 ∷ [])
    × (all_done small (remove_type 1 ∷ remove_type 1 ∷ []) ≡ false)
unfolding edits_reach edited edit_reach edit_changing early_refusal edit_walk tables bad_row list_key enclosing_lists added_lists added_table owns_table is_root_table has_sig may_link changed_slot fresh_slot chars
reached_together = (refl, refl, refl, refl)
