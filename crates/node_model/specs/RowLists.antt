-- The lists in which a row stands: that of the root or of the row that owns it, or those of the rows that its link
-- columns name. ECMA-335 II.22, the clause of each table.
use Rattle.std.specs.Prelude.{ℕ, Bool, true, false, not, List, [], ◌∷◌, Option, Some, ◌==◌, ◌&&◌, ◌||◌}
use Rattle.std.specs.Prelude.{if◌then◌else◌}
use Rattle.std.specs.List.{filter, flat_map}
use Rattle.cil_base.specs.Token.{Token, root}
use Rattle.md_schema.specs.Entry.{holder_of}
use Rattle.md_schema.specs.Link.{all_links, link_column_of, link_table_of}
use Rattle.md_schema.specs.declared.holder.Holder.{Holder}
use Rattle.md_schema.specs.declared.holder.Holder.TheVariants.{Root, Link as Listed}
use Rattle.md_schema.specs.declared.link.Link.{Link}
use Rattle.md_schema.specs.declared.link.Link.TheVariants.{Nested}
use Rattle.node_model.specs.KeyKinds.{has_kind, is_root_table, is_root_token, may_link}
use Rattle.node_model.specs.Nodes.{Nodes, is_live_row}
use Rattle.node_model.specs.RowCells.{cell_in}
use Rattle.node_model.specs.declared.cell.Cell.{Cell}
use Rattle.node_model.specs.declared.cell.Cell.TheVariants.{Ref}
use Rattle.node_model.specs.declared.key.Key.{Key}
use Rattle.node_model.specs.declared.key.Key.TheVariants.{Owned, Linked}

abbrev pub list_by : Option Holder → Token → ℕ → Key
list_by (Some (Listed link)) owner table = Linked owner link
list_by _ owner table = Owned owner table

-- the list of an owner, or of the root, in which rows of a table stand; a NestedClass row is in that of its NestedClass
unfoldable pub list_key : Token → ℕ → Key
list_key owner table = list_by (holder_of table) owner table

-- whether the owner, or the root, has a list of rows of the table
abbrev pub has_list : Token → ℕ → Bool
has_list owner table = has_kind (list_key owner table) && (not (is_root_token owner) || is_root_table table)

abbrev pub ref_lists : Link → Option Cell → List Key
ref_lists link (Some (Ref t)) = Linked t link ∷ []
ref_lists link _ = []

-- the lists of the rows that the link columns of a new row name, in the order of the columns
abbrev pub link_lists : ℕ → List Cell → List Key
link_lists table cells =
    flat_map (λ l. ref_lists l (cell_in table (link_column_of l) cells))
    (filter (λ l. link_table_of l == table) all_links)

abbrev pub added_by : Option Holder → ℕ → List Cell → List Key
added_by (Some Root) table cells = Owned root table ∷ []
added_by _ table cells = link_lists table cells

-- whether rows of the table stand in such lists, and in none of a row that owns runs
abbrev pub is_added_holder : Option Holder → Bool
is_added_holder (Some Root) = true
is_added_holder (Some (Listed link)) = true
is_added_holder _ = false

unfoldable pub added_table : ℕ → Bool
added_table table = is_added_holder (holder_of table)

-- the lists in which a new row is the last: that of the root, or those of the rows that its link columns name
unfoldable pub added_lists : ℕ → List Cell → List Key
added_lists table cells = added_by (holder_of table) table cells

abbrev pub live_lists : Nodes → Option Cell → List Key
live_lists n (Some (Ref t)) = if is_live_row n t && may_link t.table Nested then Linked t Nested ∷ [] else []
live_lists n _ = []

-- the second list of a NestedClass row: that of its EnclosingClass, where that is a row and was not removed. It is
-- always of a table that has such a list, namely TypeDef (II.22.32)
unfoldable pub enclosing_lists : Nodes → ℕ → List Cell → List Key
enclosing_lists n table cells = live_lists n (cell_in table (link_column_of Nested) cells)
