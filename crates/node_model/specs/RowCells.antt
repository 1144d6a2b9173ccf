-- Where the cells of a row stand, by its table's columns: ECMA-335 II.22.
use Rattle.std.specs.Prelude.{ℕ, Bool, List, Option, Some, None, ◌==◌, ◌&&◌, slice_get, slice_set}
use Rattle.std.specs.List.{list_any, position}
use Rattle.cil_base.specs.Steps.{◌>>=◌}
use Rattle.md_schema.specs.Link.{all_links, link_column_of, link_table_of}
use Rattle.node_model.specs.RowFaults.{cell_columns}
use Rattle.node_model.specs.declared.cell.Cell.{Cell}

-- the place among the cells of a row of the cell in a column of its table, by the column's number
abbrev pub cell_place : ℕ → ℕ → Option ℕ
cell_place table column = position (λ c. c.0 == column) (cell_columns table)

-- the cell in that column
abbrev pub cell_in : ℕ → ℕ → List Cell → Option Cell
cell_in table column cells = cell_place table column >>= λ place. slice_get cells place

abbrev pub cells_with : Option ℕ → Cell → List Cell → List Cell
cells_with (Some place) cell cells = slice_set cells place cell
cells_with None cell cells = cells

-- the cells with another one in that column
abbrev pub with_cell_in : ℕ → ℕ → Cell → List Cell → List Cell
with_cell_in table column cell cells = cells_with (cell_place table column) cell cells

-- whether rows of the table belong to the rows that the column names
abbrev pub is_link_column : ℕ → ℕ → Bool
is_link_column table column = list_any (λ l. (link_table_of l == table) && (link_column_of l == column)) all_links
