-- Cells as commands give them, by the kinds of their columns.
use Rattle.std.specs.Prelude.{ℕ, ◌^◌, ◌==◌, List, [], ◌∷◌, ◌++◌, Option, Some, None, codes, filter, if◌then◌else◌, option_map}
use Rattle.cil_base.specs.Steps.{◌>>=◌}
use Rattle.md_schema.specs.Column.{ColumnOf, is_cell_kind}
use Rattle.md_schema.specs.Entry.{column_of, columns_of}
use Rattle.md_schema.specs.declared.column.ColumnKind.{ColumnKind}
use Rattle.md_schema.specs.declared.column.ColumnKind.TheVariants as kinds
use Rattle.node_model.specs.declared.cell.Cell.{Cell}
use Rattle.node_model.specs.declared.cell.Cell.TheVariants as cells
use Rattle.serde_json.specs.Data.{Data}
use Rattle.serde_json.specs.Find.{get}
use Rattle.job_text.specs.Hex.{guid_of, hex_bytes}
use Rattle.job_text.specs.Tokens.{given_token}
use Rattle.job_text.specs.Values.{is_null, given_list, member_count, given_number, given_text}
use Rattle.job_text.specs.declared.command.Command.{Command}

-- the bytes of a text of hex digits
unfoldable pub given_bytes : Data → Option (List ℕ)
given_bytes d = given_text d >>= hex_bytes

-- the bytes of an object with the one member `hex`
unfoldable pub given_blob : Data → Option (List ℕ)
given_blob d = if member_count d == 1 then get (codes "hex") d >>= given_bytes else None

unfoldable pub given_guid : Data → Option Cell
given_guid d = if is_null d then Some cells.NoGuid else option_map cells.Guid (given_text d >>= guid_of)

unfoldable pub given_index : ℕ → List Command → Data → Option Cell
given_index m before d =
    if is_null d then Some cells.NoRef else option_map (λ t. cells.Ref t.token) (given_token m before d)

-- a cell of module m, after the actor's commands before
unfoldable pub given_cell : ℕ → List Command → ColumnKind → Data → Option Cell
given_cell m before kinds.U8Pad d = option_map cells.Num (given_number (2 ^ 64) d)
given_cell m before kinds.U16 d = option_map cells.Num (given_number (2 ^ 64) d)
given_cell m before kinds.U32 d = option_map cells.Num (given_number (2 ^ 64) d)
given_cell m before kinds.Text d = option_map cells.Text (given_text d)
given_cell m before kinds.Guid d = given_guid d
given_cell m before kinds.Blob d = option_map cells.Blob (given_blob d)
given_cell m before kinds.Sig d = None
given_cell m before (kinds.Index table) d = given_index m before d
given_cell m before (kinds.Coded kind) d = given_index m before d
given_cell m before (kinds.Start table) d = None
given_cell m before kinds.Rva d = None
given_cell m before kinds.Offset d = None

-- a cell for a column of the table
unfoldable pub given_column_cell : ℕ → List Command → ℕ → ℕ → Data → Option Cell
given_column_cell m before table number d = column_of table number >>= λ column. given_cell m before column.kind d

-- one cell a value, the i-th for the i-th column, after those in front: there may be fewer values than columns
unfoldable pub given_cells_from : ℕ → List Command → List Cell → List Data → List ColumnOf → Option (List Cell)
given_cells_from m before front [] columns = Some front
given_cells_from m before front (d ∷ ds) [] = None
given_cells_from m before front (d ∷ ds) (column ∷ columns) =
    given_cell m before column.kind d >>= λ cell. given_cells_from m before (front ++ cell ∷ []) ds columns

-- the columns that are cells
abbrev pub only_cells : List ColumnOf → List ColumnOf
only_cells columns = filter (λ column. is_cell_kind column.kind) columns

-- cells for the first of the table's cell columns
unfoldable pub given_cells : ℕ → List Command → ℕ → Data → Option (List Cell)
given_cells m before table d =
    given_list d >>= λ ds. columns_of table >>= λ columns. given_cells_from m before [] ds (only_cells columns)
