-- What a row holds: its cells, or its fault. ECMA-335 II.22.
use Rattle.std.specs.Prelude.{ℕ, List, [], ◌∷◌, Option, Some, None}
use Rattle.std.specs.List.{flat_map}
use Rattle.cil_base.specs.Token.{Token}
use Rattle.node_model.specs.RowFaults.{cell_at, cell_columns, row_fault}
use Rattle.node_model.specs.Streams.{ImageStreams}
use Rattle.node_model.specs.declared.cell.Cell.{Cell}
use Rattle.node_model.specs.declared.key.Key.TheVariants.{Row}
use Rattle.node_model.specs.declared.slot.FaultKind.TheVariants.{BadRow}
use Rattle.node_model.specs.declared.slot.Slot.{Slot}
use Rattle.node_model.specs.declared.slot.Slot.TheVariants as slots
use Rattle.node_model.specs.declared.value.Value.TheVariants as values

abbrev pub listed_cell : Option Cell → List Cell
listed_cell None = []
listed_cell (Some cell) = cell ∷ []

-- the cells of a row, in the order of the columns
abbrev pub row_cells : ImageStreams → Token → List Cell
row_cells s t = flat_map (λ c. listed_cell (cell_at s t c)) (cell_columns t.table)

abbrev pub row_slot : ImageStreams → Token → Option ℕ → Slot
row_slot s t None = slots.Value (values.Row (record { token = t; cells = row_cells s t }))
row_slot s t (Some column) = slots.Fault (record { key = Row t; kind = BadRow; column = column })

unfoldable pub read_row : ImageStreams → Token → Slot
read_row s t = row_slot s t (row_fault s t)
