-- The fault of a row: the first cell whose entry of a heap does not exist, whose row number passes the rows of its
-- table, or whose tag names no table (ECMA-335 II.22, II.24.2.6). Columns that are no cells take no part in it.
use Rattle.std.specs.Prelude.{ℕ, List, Option, is_none}
use Rattle.std.specs.List.{enumerate_from, filter, find}
use Rattle.std.specs.Option.{option_map}
use Rattle.cil_base.specs.Token.{Token}
use Rattle.md_schema.specs.Cell.{cell_of}
use Rattle.md_schema.specs.Column.{ColumnOf, is_cell_kind}
use Rattle.node_model.specs.Cells.{cell_said}
use Rattle.node_model.specs.KeyKinds.{table_columns}
use Rattle.node_model.specs.Streams.{ImageStreams}
use Rattle.node_model.specs.declared.cell.Cell.{Cell}

-- the cell columns of a table, with their numbers
abbrev pub cell_columns : ℕ → List (ℕ × ColumnOf)
cell_columns t = filter (λ c. is_cell_kind c.1.kind) (enumerate_from 0 (table_columns t))

-- what one of them says of a row, none where it is at fault
abbrev pub cell_at : ImageStreams → Token → ℕ × ColumnOf → Option Cell
cell_at s t c = cell_said s c.1.kind (cell_of s.tables t.table t.rid c.0)

-- the number of the first cell column that is at fault
abbrev pub row_fault : ImageStreams → Token → Option ℕ
row_fault s t = option_map (λ c. c.0) (find (λ c. is_none (cell_at s t c)) (cell_columns t.table))
