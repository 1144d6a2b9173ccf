-- The columns of rows that are written, with what the rows hold in them: ECMA-335 II.22.
use Rattle.std.specs.Prelude.{ℕ, List, [], map, Option, Some}
use Rattle.std.specs.List.{enumerate_from}
use Rattle.std.specs.Option.{option_map, option_map_or}
use Rattle.cil_base.specs.Token.{Token}
use Rattle.md_schema.specs.declared.column.ColumnKind.{ColumnKind}
use Rattle.sig_tree.specs.Spelling.{spell}
use Rattle.node_model.specs.KeyKinds.{table_columns}
use Rattle.node_model.specs.RowCells.{cell_in}
use Rattle.node_model.specs.declared.cell.Cell.{Cell}
use Rattle.node_model.specs.declared.key.Key.TheVariants.{Row, Sig}
use Rattle.node_model.specs.declared.value.Value.{Value}
use Rattle.node_model.specs.declared.value.Value.TheVariants as values
use Rattle.write_plan.specs.Planned.{Planned, kept_value}
use Rattle.write_plan.specs.Renamed.{renamed}
use Rattle.write_plan.specs.Unfit.{row_held}
use Rattle.write_plan.specs.Written.{new_token}

-- a column of a row: what it holds, and the row's cell in it, if it is one that has cells
pub record RowColumn : Type 0 where
  pub row : Token
  pub kind : ColumnKind
  pub cell : Option Cell

-- the cells of a row
abbrev pub cells_held : Planned → Token → List Cell
cells_held plan t = option_map_or (λ row. row.cells) (row_held (kept_value plan.entries (Row t))) []

-- the columns of a row of the table, in order
abbrev pub columns_held : Planned → ℕ → Token → List RowColumn
columns_held plan table t =
    map (λ c. record { row = t; kind = c.1.kind; cell = cell_in table c.0 (cells_held plan t) })
    (enumerate_from 0 (table_columns table))

-- the bytes of a signature (II.23.2)
abbrev pub spelled_value : Option Value → List ℕ
spelled_value (Some (values.Sig sig)) = spell sig
spelled_value _ = []

-- the bytes of a row's signature, with its tokens by their new numbers
abbrev pub sig_blob : Planned → Token → List ℕ
sig_blob plan t = spelled_value (option_map (renamed (new_token plan.lists)) (kept_value plan.entries (Sig t)))
