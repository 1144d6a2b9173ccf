-- The cell of a row in a column, by its place among the row's cells. No public contract cites this word.
use Rattle.std.specs.Prelude.{List, slice_get, Option}
use Rattle.cil_base.specs.Steps.{◌>>=◌}
use Rattle.node_model.specs.declared.cell.Cell.{Cell}
use Rattle.write_tables.specs.declared.table_column.TableColumn.{TableColumn}

abbrev pub column_cell : TableColumn → List Cell → Option Cell
column_cell column cells = column.cell >>= λ place. slice_get cells place
