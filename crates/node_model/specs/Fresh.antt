-- What the keys of a new row hold.
use Rattle.std.specs.Prelude.{Bool, [], Option, Some, None, codes, ◌&&◌, if◌then◌else◌}
use Rattle.cil_base.specs.Token.{Token}
use Rattle.node_model.specs.KeyKinds.{has_kind}
use Rattle.node_model.specs.Keys.{token_of_key, same_token}
use Rattle.node_model.specs.Lists.{tokens_slot}
use Rattle.node_model.specs.RowCells.{cell_in}
use Rattle.node_model.specs.Streams.{column_named}
use Rattle.node_model.specs.declared.cell.Cell.{Cell}
use Rattle.node_model.specs.declared.cell.Cell.TheVariants as cells
use Rattle.node_model.specs.declared.edit.OptSig.{OptSig}
use Rattle.node_model.specs.declared.edit.OptSig.TheVariants as sigs
use Rattle.node_model.specs.declared.key.Key.{Key}
use Rattle.node_model.specs.declared.key.Key.TheVariants.{Row, Sig, Owned, Linked, Body, Data, Resource, Facts}
use Rattle.node_model.specs.declared.slot.Slot.{Slot}
use Rattle.node_model.specs.declared.slot.Slot.TheVariants as slots
use Rattle.node_model.specs.declared.value.BodyValue.TheVariants.{NoBody}
use Rattle.node_model.specs.declared.value.ResourceValue.{ResourceValue}
use Rattle.node_model.specs.declared.value.ResourceValue.TheVariants.{Here, Elsewhere}
use Rattle.node_model.specs.declared.value.RowValue.{RowValue}
use Rattle.node_model.specs.declared.value.Value.TheVariants as values

abbrev pub sig_begins : OptSig → Option Slot
sig_begins sigs.None = None
sig_begins (sigs.Is sig) = Some (slots.Value (values.Sig sig))

abbrev pub resource_begins : Option Cell → ResourceValue
resource_begins (Some (cells.Ref t)) = Elsewhere 0
resource_begins _ = Here []

-- no bytes of this image, or the place 0 of what the Implementation names (ECMA-335 II.22.24)
abbrev pub fresh_resource : RowValue → ResourceValue
fresh_resource row =
    resource_begins (cell_in row.token.table (column_named row.token.table (codes "Implementation")) row.cells)

-- by the key: the row itself, its signature, lists of no rows, no body, no data, and a resource without bytes
abbrev pub begins_with : RowValue → OptSig → Key → Option Slot
begins_with row sig (Row t) = Some (slots.Value (values.Row row))
begins_with row sig (Sig t) = sig_begins sig
begins_with row sig (Owned t n) = Some (tokens_slot [])
begins_with row sig (Linked t l) = Some (tokens_slot [])
begins_with row sig (Body t) = Some (slots.Value (values.Body NoBody))
begins_with row sig (Data t) = Some (slots.Value (values.Data []))
begins_with row sig (Resource t) = Some (slots.Value (values.Resource (fresh_resource row)))
begins_with row sig Facts = None

-- the key is one of the row: of a kind that its table has
abbrev pub is_key_of : Token → Key → Bool
is_key_of t k = same_token t (token_of_key k) && has_kind k

-- what a key of a new row begins with, and none of every other key
unfoldable pub fresh_slot : RowValue → OptSig → Key → Option Slot
fresh_slot row sig k = if is_key_of row.token k then begins_with row sig k else None
