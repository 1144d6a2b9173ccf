-- The lists in which a row stands, or will stand, are of rows that are there, or the root's.
use Rattle.std.proofs.Common.{◌≡◌, refl, ◌∙◌, ap, ℕ, Bool, true, false, List, [], ◌∷◌, Option, Some, None, if◌then◌else◌, not}
use Rattle.std.specs.Prelude.{◌&&◌, ◌||◌}
use Rattle.std.specs.List.{list_all}
use Rattle.std.proofs.lemmas.Bool.{and_parts}
use Rattle.cil_base.specs.Token.{Token, root}
use Rattle.md_schema.specs.Entry.{holder_of}
use Rattle.md_schema.specs.Link.{link_column_of}
use Rattle.md_schema.specs.declared.holder.Holder.{Holder}
use Rattle.md_schema.specs.declared.holder.Holder.TheVariants.{Root, Owner, Link as Listed}
use Rattle.md_schema.specs.declared.link.Link.TheVariants.{Nested}
use Rattle.node_model.specs.EditRefusals.{owner_rows}
use Rattle.node_model.specs.KeyKinds.{has_kind, is_root_holder, is_root_table, is_root_token, may_link}
use Rattle.node_model.specs.Keys.{is_of_root, is_row, token_of_key}
use Rattle.node_model.specs.NamedTokens.{cells_name}
use Rattle.node_model.specs.Nodes.{Nodes, is_live_row}
use Rattle.node_model.specs.PlacedCells.{row_placed}
use Rattle.node_model.specs.RowCells.{cell_in}
use Rattle.node_model.specs.RowLists.{added_by, added_lists, enclosing_lists, has_list, list_by, list_key, live_lists}
use Rattle.node_model.specs.declared.cell.Cell.{Cell}
use Rattle.node_model.specs.declared.cell.Cell.TheVariants as cells
use Rattle.node_model.specs.declared.key.Key.TheVariants.{Owned, Linked}
use Rattle.node_model.proofs.KnownLemmas.{knows, live_key}
use Rattle.node_model.proofs.LinkCellLemmas.{is_good_name, links_known}

pub one_live : (n : Nodes) (t : Token) → list_all (is_live_row n) (t ∷ []) ≡ true → is_live_row n t ≡ true
one_live n t all = (and_parts (is_live_row n t) true all).0

pub owned_known : (n : Nodes) (owner : Token) (table : ℕ) → list_all (is_live_row n) (owner_rows owner) ≡ true → has_kind (Owned owner table) ≡ true → knows n (Owned owner table) ≡ true
owned_known n owner table live kind = by_root (is_root_token owner) refl live
  where
    of_root : (x y : Bool) → x ≡ true → ((x || y) && true) ≡ true
    of_root true y e = refl
    of_root false y e = absurd cc

    by_root : (x : Bool) → is_root_token owner ≡ x → list_all (is_live_row n) (if x then [] else owner ∷ []) ≡ true → knows n (Owned owner table) ≡ true
    by_root true is live = rw kind (of_root (is_root_token owner) (is_row n.rows owner) is)
    by_root false is live = live_key n (Owned owner table) (one_live n owner live) kind

root_list_known : (n : Nodes) (table : ℕ) → is_root_table table ≡ true → knows n (Owned root table) ≡ true
root_list_known n table is = is

pub added_known : (n : Nodes) (table : ℕ) (cs : List Cell) → list_all (is_good_name n) (cells_name (row_placed table cs)) ≡ true → list_all (knows n) (added_lists table cs) ≡ true
unfolding added_lists is_root_table
added_known n table cs good = by_holder (holder_of table) refl
  where
    by_holder : (o : Option Holder) → holder_of table ≡ o → list_all (knows n) (added_by o table cs) ≡ true
    by_holder (Some Root) is = rw is refl
    by_holder (Some (Owner number)) is = links_known n table cs good
    by_holder (Some (Listed link)) is = links_known n table cs good
    by_holder None is = links_known n table cs good

list_token : (owner : Token) (table : ℕ) → token_of_key (list_key owner table) ≡ owner
unfolding list_key
list_token owner table = by_holder (holder_of table)
  where
    by_holder : (o : Option Holder) → token_of_key (list_by o owner table) ≡ owner
    by_holder (Some Root) = refl
    by_holder (Some (Owner number)) = refl
    by_holder (Some (Listed link)) = refl
    by_holder None = refl

list_of_root : (owner : Token) (table : ℕ) → is_root_token owner ≡ true → is_root_table table ≡ true → is_of_root (list_key owner table) ≡ true
unfolding list_key is_root_table
list_of_root owner table is listed = by_holder (holder_of table) listed
  where
    by_holder : (o : Option Holder) → is_root_holder o ≡ true → is_of_root (list_by o owner table) ≡ true
    by_holder (Some Root) e = is
    by_holder (Some (Owner number)) e = absurd cc
    by_holder (Some (Listed link)) e = absurd cc
    by_holder None e = absurd cc

pub list_known : (n : Nodes) (owner : Token) (table : ℕ) → list_all (is_live_row n) (owner_rows owner) ≡ true → has_list owner table ≡ true → knows n (list_key owner table) ≡ true
list_known n owner table live has =
    let parts = and_parts (has_kind (list_key owner table)) (not (is_root_token owner) || is_root_table table) has in
    by_root (is_root_token owner) refl live parts.1 parts.0
  where
    of_root : (x y z : Bool) → x ≡ true → z ≡ true → ((x || y) && z) ≡ true
    of_root true y true e f = refl
    of_root true y false e f = absurd cc
    of_root false y z e f = absurd cc

    by_root : (x : Bool) → is_root_token owner ≡ x → list_all (is_live_row n) (if x then [] else owner ∷ []) ≡ true → (not x || is_root_table table) ≡ true
        → has_kind (list_key owner table) ≡ true → knows n (list_key owner table) ≡ true
    by_root true is live listed kind =
        of_root (is_of_root (list_key owner table)) (is_row n.rows (token_of_key (list_key owner table))) (has_kind (list_key owner table)) (list_of_root owner table is listed) kind
    by_root false is live listed kind =
        live_key n (list_key owner table) (ap (is_live_row n) (list_token owner table) ∙ one_live n owner live) kind

live_lists_known : (n : Nodes) (o : Option Cell) → list_all (knows n) (live_lists n o) ≡ true
live_lists_known n (Some (cells.Ref t)) = by_live (is_live_row n t && may_link t.table Nested) refl
  where
    by_live : (x : Bool) → (is_live_row n t && may_link t.table Nested) ≡ x → list_all (knows n) (if x then Linked t Nested ∷ [] else []) ≡ true
    by_live true is =
        let parts = and_parts (is_live_row n t) (may_link t.table Nested) is in
        rw (live_key n (Linked t Nested) parts.0 parts.1) refl
    by_live false is = refl
live_lists_known n _ = refl

pub enclosing_known : (n : Nodes) (table : ℕ) (cs : List Cell) → list_all (knows n) (enclosing_lists n table cs) ≡ true
unfolding enclosing_lists
enclosing_known n table cs = live_lists_known n (cell_in table (link_column_of Nested) cs)
