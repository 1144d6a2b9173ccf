-- The cells of a row as the code reads them, column by column, up to the first that is at fault.
use Rattle.std.specs.Prelude.{ℕ, ◌+◌, List, [], ◌∷◌, ◌++◌, Option, Some, None, Result, Ok, Err, if◌then◌else◌}
use Rattle.cil_base.specs.Token.{Token}
use Rattle.md_schema.specs.Column.{ColumnOf, is_cell_kind}
use Rattle.node_model.specs.RowFaults.{cell_at}
use Rattle.node_model.specs.Streams.{ImageStreams}
use Rattle.node_model.specs.declared.cell.Cell.{Cell}
use Rattle.node_model.specs.declared.key.Key.TheVariants.{Row}
use Rattle.node_model.specs.declared.slot.FaultKind.TheVariants.{BadRow}
use Rattle.node_model.specs.declared.slot.Slot.{Slot}
use Rattle.node_model.specs.declared.slot.Slot.TheVariants as slots
use Rattle.node_model.specs.declared.value.Value.TheVariants as values

-- these cells before those that are still to come
abbrev pub cells_before : List Cell → Result (List Cell) ℕ → Result (List Cell) ℕ
cells_before front (Ok rest) = Ok (front ++ rest)
cells_before front (Err column) = Err column

abbrev pub one_cell : ℕ → Option Cell → Result (List Cell) ℕ → Result (List Cell) ℕ
one_cell n None rest = Err n
one_cell n (Some cell) rest = cells_before (cell ∷ []) rest

-- the cells of the columns from number n on, or the number of the first that is at fault
unfoldable pub cells_from : ImageStreams → Token → ℕ → List ColumnOf → Result (List Cell) ℕ
cells_from s t n [] = Ok []
cells_from s t n (c ∷ cs) =
    if is_cell_kind c.kind then one_cell n (cell_at s t (n, c)) (cells_from s t (n + 1) cs)
    else cells_from s t (n + 1) cs

-- the slot of a row by its cells
abbrev pub cells_slot : Token → Result (List Cell) ℕ → Slot
cells_slot t (Ok cells) = slots.Value (values.Row (record { token = t; cells = cells }))
cells_slot t (Err column) = slots.Fault (record { key = Row t; kind = BadRow; column = column })
