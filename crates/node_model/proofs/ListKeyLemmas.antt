-- The keys of the lists in which rows stand are lists.
use Rattle.std.proofs.Common.{◌≡◌, refl, ◌∙◌, ℕ, Bool, true, false, List, [], ◌∷◌, Option, Some, None, if◌then◌else◌}
use Rattle.std.specs.Prelude.{◌==◌, ◌&&◌}
use Rattle.std.specs.List.{filter, flat_map, list_all}
use Rattle.std.proofs.lemmas.List.Folds.{list_all-append}
use Rattle.cil_base.specs.Token.{Token}
use Rattle.md_schema.specs.Entry.{holder_of}
use Rattle.md_schema.specs.Link.{all_links, link_column_of, link_table_of}
use Rattle.md_schema.specs.declared.holder.Holder.{Holder}
use Rattle.md_schema.specs.declared.holder.Holder.TheVariants.{Root, Owner, Link as Listed}
use Rattle.md_schema.specs.declared.link.Link.{Link}
use Rattle.md_schema.specs.declared.link.Link.TheVariants.{Nested}
use Rattle.node_model.specs.KeyKinds.{may_link}
use Rattle.node_model.specs.Nodes.{Nodes, is_live_row}
use Rattle.node_model.specs.RowCells.{cell_in}
use Rattle.node_model.specs.RowLists.{added_by, added_lists, enclosing_lists, list_by, list_key, live_lists, ref_lists}
use Rattle.node_model.specs.declared.cell.Cell.{Cell}
use Rattle.node_model.specs.declared.cell.Cell.TheVariants as cells
use Rattle.node_model.specs.declared.key.Key.TheVariants.{Linked}
use Rattle.node_model.proofs.LeafLemmas.{is_list_key}

by_holder : (o : Option Holder) (owner : Token) (table : ℕ) → is_list_key (list_by o owner table) ≡ true
by_holder (Some (Listed link)) owner table = refl
by_holder (Some Root) owner table = refl
by_holder (Some (Owner number)) owner table = refl
by_holder None owner table = refl

pub list_key_is : (owner : Token) (table : ℕ) → is_list_key (list_key owner table) ≡ true
unfolding list_key
list_key_is owner table = by_holder (holder_of table) owner table

refs_are : (link : Link) (o : Option Cell) → list_all is_list_key (ref_lists link o) ≡ true
refs_are link (Some (cells.Ref t)) = refl
refs_are link _ = refl

links_are : (table : ℕ) (cs : List Cell) (links : List Link) → list_all is_list_key (flat_map (λ l. ref_lists l (cell_in table (link_column_of l) cs)) links) ≡ true
links_are table cs [] = refl
links_are table cs (l ∷ links) =
    list_all-append is_list_key (ref_lists l (cell_in table (link_column_of l) cs)) (flat_map (λ l. ref_lists l (cell_in table (link_column_of l) cs)) links)
    ∙ rw (refs_are l (cell_in table (link_column_of l) cs), links_are table cs links) refl

added_by_are : (o : Option Holder) (table : ℕ) (cs : List Cell) → list_all is_list_key (added_by o table cs) ≡ true
added_by_are (Some Root) table cs = refl
added_by_are (Some (Listed link)) table cs = links_are table cs (filter (λ l. link_table_of l == table) all_links)
added_by_are (Some (Owner number)) table cs = links_are table cs (filter (λ l. link_table_of l == table) all_links)
added_by_are None table cs = links_are table cs (filter (λ l. link_table_of l == table) all_links)

pub added_are : (table : ℕ) (cs : List Cell) → list_all is_list_key (added_lists table cs) ≡ true
unfolding added_lists
added_are table cs = added_by_are (holder_of table) table cs

live_are : (n : Nodes) (o : Option Cell) → list_all is_list_key (live_lists n o) ≡ true
live_are n (Some (cells.Ref t)) = by_live (is_live_row n t && may_link t.table Nested)
  where
    by_live : (x : Bool) → list_all is_list_key (if x then Linked t Nested ∷ [] else []) ≡ true
    by_live true = refl
    by_live false = refl
live_are n _ = refl

pub enclosing_are : (n : Nodes) (table : ℕ) (cs : List Cell) → list_all is_list_key (enclosing_lists n table cs) ≡ true
unfolding enclosing_lists
enclosing_are n table cs = live_are n (cell_in table (link_column_of Nested) cs)
