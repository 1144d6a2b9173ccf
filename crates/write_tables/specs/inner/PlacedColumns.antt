-- The columns of a table on the way, each with all that its rows need. No public contract cites these words.
use Rattle.std.specs.Prelude.{ℕ, ◌==◌, List, map, slice_get, Option}
use Rattle.std.specs.List.{enumerate_from, filter, flat_map, position}
use Rattle.std.specs.Option.{unwrap_or}
use Rattle.cil_base.specs.Steps.{◌>>=◌}
use Rattle.cil_base.specs.Token.{Token}
use Rattle.md_heaps.specs.LaidHeaps.{HeapEntries}
use Rattle.md_schema.specs.Column.{ColumnOf, is_cell_kind}
use Rattle.node_model.specs.declared.cell.Cell.{Cell}
use Rattle.write_plan.specs.Planned.{Planned}
use Rattle.write_tables.specs.Contents.{HeapContent, column_contents}
use Rattle.write_tables.specs.RowColumns.{RowColumn, cells_held}
use Rattle.write_tables.specs.WrittenRows.{column_number, numbers_by_place}
use Rattle.write_tables.specs.declared.placed.Placed.{Placed}
use Rattle.write_tables.specs.declared.table_column.TableColumn.{TableColumn}

-- the place among the cells of a row of the one in the column of that number
abbrev pub cell_place_among : List ColumnOf → ℕ → Option ℕ
cell_place_among columns number =
    position (λ c. c.0 == number) (filter (λ c. is_cell_kind c.1.kind) (enumerate_from 0 columns))

-- a column of these, by its number
abbrev pub placed_column : Planned → Placed → ℕ → List ColumnOf → ℕ × ColumnOf → TableColumn
placed_column plan placed table columns c = record {
  kind = c.1.kind;
  cell = cell_place_among columns c.0;
  numbers = numbers_by_place plan placed table c.1.kind;
}

abbrev pub placed_columns : Planned → Placed → ℕ → List ColumnOf → List TableColumn
placed_columns plan placed table columns = map (placed_column plan placed table columns) (enumerate_from 0 columns)

-- what a row with these cells holds in a column
abbrev pub held_in : Token → List Cell → TableColumn → RowColumn
held_in t cells column = record { row = t; kind = column.kind; cell = column.cell >>= λ place. slice_get cells place }

-- what such a row puts into the heaps in a column
abbrev pub held_contents : Planned → Token → List Cell → TableColumn → List HeapContent
held_contents plan t cells column = column_contents plan (held_in t cells column)

-- its number in the column, by its place
abbrev pub held_number : Planned → HeapEntries → ℕ → Token → List Cell → TableColumn → ℕ
held_number plan heaps place t cells column =
    column_number plan heaps (unwrap_or (slice_get column.numbers place) 0) (held_in t cells column)

-- what a row puts into the heaps, column by column
abbrev pub held_row : Planned → List TableColumn → Token → List HeapContent
held_row plan columns t = flat_map (held_contents plan t (cells_held plan t)) columns

-- the numbers of the row at a place
abbrev pub held_numbers : Planned → HeapEntries → List TableColumn → ℕ × Token → List ℕ
held_numbers plan heaps columns row = map (held_number plan heaps row.0 row.1 (cells_held plan row.1)) columns
