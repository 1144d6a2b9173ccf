-- Queries worked by hand over the graph of a small image, so that a wrong key, a wrong order or a wrong name does not check.
use Rattle.std.proofs.Common.{◌≡◌, ◌∙◌, sym, ap, refl}
use Rattle.std.specs.Prelude.{ℕ, List, [], ◌∷◌, ◌++◌, map, codes, Result, Ok, ◌==◌, if◌then◌else◌}
use Rattle.std.specs.List.{flat_map}
use Rattle.cil_base.specs.Token.{Token, root}
use Rattle.md_schema.specs.Schema.{tables}
use Rattle.md_schema.specs.declared.link.Link.TheVariants.{InterfaceImpl, NestedClass, Nested}
use Rattle.sig_tree.specs.Printed.{chars, filled_pieces, method_pieces_level, piece_token, type_pieces, type_pieces_level}
use Rattle.sig_tree.specs.declared.piece.Piece.{Piece}
use Rattle.sig_tree.specs.declared.piece.Piece.TheVariants.{Name as NamePiece}
use Rattle.sig_tree.specs.declared.tree.SigTree.{SigTree}
use Rattle.sig_tree.specs.declared.tree.SigTree.TheVariants as sorts
use Rattle.sig_tree.specs.declared.tree.TypeSig.TheOpen.{TypeSig-F}
use Rattle.sig_tree.specs.declared.tree.TypeSig.TheFolds.{fold-roll-TypeSig}
use Rattle.sig_tree.specs.declared.tree.TypeSig.TheVariants.{Class}
use Rattle.sig_tree.specs.declared.tree.TypeSig.TheViews.{rolls-Class}
use Rattle.node_model.specs.Graph.{Graph}
use Rattle.node_model.specs.KeyKinds.{has_sig, is_root_table, owns_table}
use Rattle.node_model.specs.Keys.{same_key, same_token}
use Rattle.node_model.specs.Lists.{tokens_slot}
use Rattle.node_model.specs.Questions.{early_reply, query_walk}
use Rattle.node_model.specs.Replies.{all_slots, reach, reply}
use Rattle.node_model.specs.RowNames.{has_name, name_walk, named_in_sig, sig_walk, type_name_level, type_name_walk}
use Rattle.node_model.specs.RowTexts.{cell_among, inner_type_name, own_type_name}
use Rattle.node_model.specs.Searches.{find_member_walk, find_type_walk}
use Rattle.node_model.specs.TypeViews.{method_walk, type_walk}
use Rattle.node_model.specs.Walk.{Gives, each_walk, said, then_walk}
use Rattle.node_model.specs.declared.cell.Cell.{Cell}
use Rattle.node_model.specs.declared.cell.Cell.TheVariants as cells
use Rattle.node_model.specs.declared.key.Key.{Key}
use Rattle.node_model.specs.declared.key.Key.TheVariants.{Row, Sig, Owned, Linked, Body}
use Rattle.node_model.specs.declared.query.OptText.TheVariants as texts
use Rattle.node_model.specs.declared.query.Query.TheVariants as queries
use Rattle.node_model.specs.declared.reply.Reply.TheVariants as replies
use Rattle.node_model.specs.declared.slot.Fault.{Fault}
use Rattle.node_model.specs.declared.slot.FaultKind.TheVariants.{BadRow}
use Rattle.node_model.specs.declared.slot.Slot.{Slot}
use Rattle.node_model.specs.declared.slot.Slot.TheVariants as slots
use Rattle.node_model.specs.declared.value.BodyValue.TheVariants.{NoBody}
use Rattle.node_model.specs.declared.value.RowValue.{RowValue}
use Rattle.node_model.specs.declared.value.Value.TheVariants as values
use Rattle.node_model.specs.declared.walk.Halt.{Halt}
use Rattle.node_model.proofs.EditFacts.{go_sig, method, nesting, row_of, small_held, type, type_cells}

abbrev type_ref_row : ℕ → Token
type_ref_row n = record { table = 0x01; rid = n }

abbrev field_row : Token
field_row = record { table = 0x04; rid = 1 }

-- three types, the third in the second, which has a field and two methods; and two types of another image, the second in the first
abbrev home_rows : ℕ → ℕ
home_rows t = if t == 0x02 then 3 else (if t == 0x01 then 2 else (if t == 0x06 then 2 else (if (t == 0x04) then 1 else (if t == 0x29 then 1 else 0))))

abbrev method_cells : List ℕ → List Cell
method_cells name = cells.Num 0 ∷ cells.Num 22 ∷ cells.Text name ∷ []

abbrev home_cells : Token → List Cell
home_cells t =
    if same_token t (type 1) then type_cells (codes "<Module>") []
    else (if same_token t (type 2) then type_cells (codes "Outer") (codes "N")
    else (if same_token t (type 3) then type_cells (codes "Inner") []
    else (if same_token t nesting then cells.Ref (type 3) ∷ cells.Ref (type 2) ∷ []
    else (if same_token t (method 1) then method_cells (codes "Gone")
    else (if same_token t (method 2) then method_cells (codes "Go")
    else (if same_token t field_row then cells.Num 1 ∷ cells.Text (codes "x") ∷ []
    else (if same_token t (type_ref_row 1) then cells.NoRef ∷ cells.Text (codes "A") ∷ cells.Text (codes "M") ∷ []
    else cells.Ref (type_ref_row 1) ∷ cells.Text (codes "B") ∷ cells.Text [] ∷ [])))))))

abbrev home_list : Key → List Token
home_list k =
    if same_key k (Owned root 0x02) then type 1 ∷ type 2 ∷ type 3 ∷ []
    else (if same_key k (Owned (type 2) 0x04) then field_row ∷ []
    else (if same_key k (Owned (type 2) 0x06) then method 1 ∷ method 2 ∷ []
    else (if same_key k (Linked (type 3) NestedClass) then nesting ∷ []
    else (if same_key k (Linked (type 2) Nested) then nesting ∷ [] else []))))

-- the field is of the second type
abbrev field_sig_of : Token → SigTree
field_sig_of t = sorts.Field (Class t)

abbrev home_held : Key → Slot
home_held (Row t) = row_of t (home_cells t)
home_held (Owned t n) = tokens_slot (home_list (Owned t n))
home_held (Linked t l) = tokens_slot (home_list (Linked t l))
home_held (Sig t) = slots.Value (values.Sig (if t.table == 0x04 then field_sig_of (type 2) else go_sig))
home_held k = small_held k

abbrev home_after : List Token → Graph
home_after removed = record { nodes = record { rows = home_rows; removed = removed }; held = home_held }

abbrev home : Graph
home = home_after []

abbrev row_value : Token → RowValue
row_value t = record { token = t; cells = home_cells t }

-- a type in another goes by the other's name, the keys of which come before its own row
pub inner_name :
    (reply home 0 (queries.Name (type 3)) ≡ replies.Name (type 3) (codes "N.Outer/Inner"))
    × (reach home (queries.Name (type 3)) ≡ Linked (type 3) NestedClass ∷ Row nesting ∷ Linked (type 2) NestedClass ∷ Row (type 2) ∷ Row (type 3) ∷ [])
    × (reply home 0 (queries.Name (type 1)) ≡ replies.Name (type 1) (codes "<Module>"))
    × (reply home 0 (queries.Name (type_ref_row 2)) ≡ replies.Name (type_ref_row 2) (codes "M.A/B"))
    × (reach home (queries.Name (type_ref_row 2)) ≡ Row (type_ref_row 2) ∷ Row (type_ref_row 1) ∷ [])
unfolding reach reply early_reply query_walk name_walk type_name_level has_name own_type_name inner_type_name cell_among tables
inner_name = (refl, refl, refl, refl, refl)

-- a removed type is a mark and no key; a removed NestedClass row is passed over
pub removed_name :
    (reply (home_after (type 2 ∷ [])) 0 (queries.Name (type 3)) ≡ replies.Name (type 3) (codes "?/Inner"))
    × (reach (home_after (type 2 ∷ [])) (queries.Name (type 3)) ≡ Linked (type 3) NestedClass ∷ Row nesting ∷ Row (type 3) ∷ [])
    × (reply (home_after (nesting ∷ [])) 0 (queries.Name (type 3)) ≡ replies.Name (type 3) (codes "Inner"))
    × (reach (home_after (nesting ∷ [])) (queries.Name (type 3)) ≡ Linked (type 3) NestedClass ∷ Row (type 3) ∷ [])
    × (reply (home_after (type 2 ∷ [])) 0 (queries.Name (type 2)) ≡ replies.Removed (type 2))
unfolding reach reply early_reply query_walk name_walk type_name_level has_name own_type_name inner_type_name cell_among tables
removed_name = (refl, refl, refl, refl, refl)

-- a removed method is passed over; a removed row that nests a type stays in the list
pub removed_members :
    (reply (home_after (method 1 ∷ nesting ∷ [])) 0 (queries.TypeInfo (type 2)) ≡ replies.TypeInfo (record {
      row = row_value (type 2);
      fields = row_value field_row ∷ [];
      methods = row_value (method 2) ∷ [];
      interfaces = [];
      nested = nesting ∷ [];
    }))
    × (reach (home_after (method 1 ∷ nesting ∷ [])) (queries.TypeInfo (type 2))
    ≡ Row (type 2) ∷ Owned (type 2) 0x04 ∷ Row field_row ∷ Owned (type 2) 0x06 ∷ Row (method 2) ∷ Linked (type 2) InterfaceImpl ∷ Linked (type 2) Nested ∷ [])
    × (reply (home_after (method 1 ∷ [])) 0 (queries.FindMember (type 2) 0x06 (codes "Gone") texts.None) ≡ replies.NotFound)
    × (reply home 0 (queries.FindMember (type 2) 0x06 (codes "Gone") texts.None) ≡ replies.Found (method 1))
    × (reply home 0 (queries.Method (method 2)) ≡ replies.Method (record { row = row_value (method 2); sig = go_sig; params = []; body = NoBody }))
    × (reach home (queries.Method (method 2)) ≡ Row (method 2) ∷ Sig (method 2) ∷ Owned (method 2) 0x08 ∷ Body (method 2) ∷ [])
unfolding reach reply early_reply query_walk type_walk method_walk find_member_walk owns_table cell_among tables
removed_members = (refl, refl, refl, refl, refl, refl)

-- a search ends with the first that fits; a row that it does not reach may be at fault
abbrev bad_row_3 : Fault
bad_row_3 = record { key = Row (type 3); kind = BadRow; column = 1 }

abbrev damaged_held : Key → Slot
damaged_held k = if same_key k (Row (type 3)) then slots.Fault bad_row_3 else home_held k

abbrev damaged : Graph
damaged = record { nodes = record { rows = home_rows; removed = [] }; held = damaged_held }

pub first_fit :
    (reply damaged 0 (queries.FindType (codes "N") (codes "Outer")) ≡ replies.Found (type 2))
    × (reach damaged (queries.FindType (codes "N") (codes "Outer")) ≡ Owned root 0x02 ∷ Row (type 1) ∷ Row (type 2) ∷ [])
    × (reply damaged 0 (queries.FindType [] (codes "Inner")) ≡ replies.Fault bad_row_3)
    × (reply home 0 (queries.FindType (codes "N") (codes "Inner")) ≡ replies.NotFound)
unfolding reach reply early_reply query_walk find_type_walk cell_among tables
first_fit = (refl, refl, refl, refl)

-- what is said before any key is looked at
pub wrong_kinds :
    (map (reply home 0) (
    queries.Name nesting ∷ queries.TypeInfo (method 1) ∷ queries.Method (type 1) ∷ queries.FindMember (type 2) 0x08 [] texts.None
    ∷ queries.FindMember (method 1) 0x06 [] texts.None ∷ queries.TypeInfo (type 9) ∷ queries.FindMember root 0x06 [] texts.None ∷ [])
    ≡ replies.WrongKind nesting ∷ replies.WrongKind (method 1) ∷ replies.WrongKind (type 1) ∷ replies.WrongKind (type 2)
    ∷ replies.WrongKind (method 1) ∷ replies.Absent (type 9) ∷ replies.Absent root ∷ [])
    × (reach home (queries.TypeInfo (method 1)) ≡ [])
unfolding reach reply early_reply query_walk has_name has_sig owns_table is_root_table tables
wrong_kinds = (refl, refl)

-- which tables have names: those with a signature, types and assemblies
class_pieces : (t : Token) → type_pieces (Class t) ≡ chars (codes "class ") ++ NamePiece t ∷ []
class_pieces t =
    ap type_pieces (sym (rolls-Class t)) ∙ fold-roll-TypeSig (List Piece) (List Piece) type_pieces_level method_pieces_level (TypeSig-F.Class t)

abbrev sig_said : Graph → List Piece → Result (List ℕ) Halt
sig_said g ps =
    said (all_slots g) (then_walk (each_walk (named_in_sig g.nodes (type_name_walk g.nodes 63)) (flat_map piece_token ps)) (λ names. Gives (filled_pieces ps names)))

-- the signature of a field, with the name of its type; a type that was removed is a mark
pub field_name :
    (said (all_slots home) (name_walk home.nodes field_row) ≡ Ok (codes "field class N.Outer"))
    × (said (all_slots (home_after (type 2 ∷ []))) (name_walk (home_after (type 2 ∷ [])).nodes field_row) ≡ Ok (codes "field class ?"))
unfolding name_walk sig_walk type_name_level own_type_name cell_among chars tables
field_name = (ap (λ ps. sig_said home (chars (codes "field ") ++ ps)) (class_pieces (type 2)), ap (λ ps. sig_said (home_after (type 2 ∷ [])) (chars (codes "field ") ++ ps)) (class_pieces (type 2)))
