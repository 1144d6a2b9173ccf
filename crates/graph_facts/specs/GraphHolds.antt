-- What holds of an image after edits: of each key that is there, and of links both ways. ECMA-335 II.22.
use Rattle.std.specs.Prelude.{ℕ, ◌≡◌, ◌<◌, ◌^◌, true, List, Option, Some}
use Rattle.std.specs.List.{AllByRecursion, list_any}
use Rattle.cil_base.specs.Token.{Token}
use Rattle.md_schema.specs.Layout.{IsWhole}
use Rattle.md_schema.specs.Link.{link_column_of, link_table_of}
use Rattle.md_schema.specs.declared.link.Link.{Link}
use Rattle.pe_image.specs.Streams.{stream}
use Rattle.pe_image.specs.declared.stream.StreamName.TheVariants.{Tables}
use Rattle.node_model.specs.Graph.{Graph, graph_of}
use Rattle.node_model.specs.KeyKinds.{has_kind}
use Rattle.node_model.specs.Keys.{is_key_there, same_token}
use Rattle.node_model.specs.Lists.{tokens_slot}
use Rattle.node_model.specs.Nodes.{is_live_row}
use Rattle.node_model.specs.RowCells.{cell_in}
use Rattle.node_model.specs.declared.cell.Cell.{Cell}
use Rattle.node_model.specs.declared.cell.Cell.TheVariants.{Ref}
use Rattle.node_model.specs.declared.edit.Edit.{Edit}
use Rattle.node_model.specs.declared.key.Key.{Key}
use Rattle.node_model.specs.declared.key.Key.TheVariants.{Row, Linked}
use Rattle.node_model.specs.declared.slot.Slot.TheVariants as slots
use Rattle.node_model.specs.declared.value.RowValue.{RowValue}
use Rattle.node_model.specs.declared.value.Value.{Value}
use Rattle.node_model.specs.declared.value.Value.TheVariants as values
use Rattle.graph_facts.specs.HoldsValue.{HoldsValue}
use Rattle.graph_facts.specs.OfTypes.{AreBytes, EditOfTypes}

-- the cell in the link's column of a row of the link's table
abbrev pub link_cell : Link → RowValue → Option Cell
link_cell l row = cell_in (link_table_of l) (link_column_of l) row.cells

-- the key is there, and its table has its kind
pub record IsKeyOf (g : Graph) (k : Key) : Type 0 where
  pub there : is_key_there g.nodes.rows k ≡ true
  pub kind : has_kind k ≡ true

-- each row that a link lists names in the link's column the row whose list it is
abbrev pub LinksNameOwners : Graph → Type 0
LinksNameOwners g =
    (t m : Token) (l : Link) (ts : List Token) (row : RowValue)
    → IsKeyOf g (Linked t l)
    → g.held (Linked t l) ≡ tokens_slot ts → list_any (same_token m) ts ≡ true
    → g.held (Row m) ≡ slots.Value (values.Row row)
    → link_cell l row ≡ Some (Ref t)

-- each row that is there, and that names a row in a link's column, is listed there
abbrev pub OwnersListLinks : Graph → Type 0
OwnersListLinks g =
    (t m : Token) (l : Link) (ts : List Token) (row : RowValue)
    → is_live_row g.nodes m ≡ true → m.table ≡ link_table_of l
    → g.held (Row m) ≡ slots.Value (values.Row row)
    → link_cell l row ≡ Some (Ref t)
    → g.held (Linked t l) ≡ tokens_slot ts → list_any (same_token m) ts ≡ true

pub record GraphHolds (g : Graph) : Type 0 where
  pub few : (table : ℕ) → g.nodes.rows table < 2 ^ 24
  pub holds : (k : Key) (v : Value) → IsKeyOf g k → g.held k ≡ slots.Value v → HoldsValue g.nodes k v
  pub named : LinksNameOwners g
  pub listed : OwnersListLinks g

-- of each image whose tables are whole, after whatever edits
abbrev pub GraphsHold : Type 0
GraphsHold =
    (b : List ℕ) (j : List Edit)
    → IsWhole (stream b Tables) → AreBytes b → AllByRecursion EditOfTypes j
    → GraphHolds (graph_of b j)
