-- The numbers in the columns of the rows that are written: ECMA-335 II.22, II.24.2.6.
use Rattle.std.specs.Prelude.{ℕ, ◌+◌, ◌/◌, ◌==◌, List, [], map, take, length, slice_get, Option, Some, if◌then◌else◌}
use Rattle.std.specs.List.{enumerate_from, range_with_len, sum_by}
use Rattle.std.specs.Option.{option_map_or, unwrap_or}
use Rattle.cil_base.specs.Token.{Token}
use Rattle.md_heaps.specs.LaidHeaps.{HeapEntries, blob_entry, text_entry}
use Rattle.md_heaps.specs.Pools.{entry_place}
use Rattle.md_schema.specs.Tables.{method_def}
use Rattle.md_schema.specs.declared.column.ColumnKind.{ColumnKind}
use Rattle.md_schema.specs.declared.column.ColumnKind.TheVariants.{U8Pad, U16, U32, Text, Guid, Blob, Sig, Index}
use Rattle.md_schema.specs.declared.column.ColumnKind.TheVariants.{Coded, Start, Rva, Offset}
use Rattle.node_model.specs.RowTexts.{blob_of_cell, number_of_cell, text_of_cell}
use Rattle.node_model.specs.declared.cell.Cell.{Cell}
use Rattle.node_model.specs.declared.cell.Cell.TheVariants as cells
use Rattle.node_model.specs.declared.key.Key.TheVariants.{Owned}
use Rattle.write_plan.specs.Planned.{Planned, kept_value}
use Rattle.write_plan.specs.Seen.{list_members}
use Rattle.write_plan.specs.Written.{new_token, reference_number, rows_in}
use Rattle.write_tables.specs.Contents.{guid_of_cell, table_range, written_entries}
use Rattle.write_tables.specs.RowColumns.{RowColumn, columns_held, sig_blob}
use Rattle.write_tables.specs.declared.placed.Placed.{Placed}

-- how many rows of a table a row owns
abbrev pub run_length : Planned → ℕ → Token → ℕ
run_length plan owned owner = length (list_members (kept_value plan.entries (Owned owner owned)))

-- where the runs of the rows of a table start: each at the row after all runs before it
abbrev pub run_starts : Planned → ℕ → ℕ → List ℕ
run_starts plan table owned =
    map (λ place. 1 + sum_by (run_length plan owned) (take place (rows_in plan.lists table)))
    (range_with_len 0 (length (rows_in plan.lists table)))

-- the numbers of the rows of a table in a column, where they go by the places of the rows
abbrev pub numbers_by_place : Planned → Placed → ℕ → ColumnKind → List ℕ
numbers_by_place plan placed table (Start owned) = run_starts plan table owned
numbers_by_place plan placed table Rva = if table == method_def then placed.bodies else placed.field_bytes
numbers_by_place plan placed table Offset = placed.resources
numbers_by_place plan placed table _ = []

-- the new number of the row that a cell names, and 0 where it names none
abbrev pub row_named : Planned → ColumnKind → Option Cell → ℕ
row_named plan kind (Some (cells.Ref t)) = reference_number kind (new_token plan.lists t)
row_named plan kind _ = 0

-- GUIDs have sixteen bytes, and are counted from 1
abbrev pub guid_number : List (List ℕ) → Option Cell → ℕ
guid_number guids cell = option_map_or (λ bytes. entry_place guids bytes / 16 + 1) (guid_of_cell cell) 0

-- the number of a row in a column: that of its cell, the place of its entry in a heap, that of the row that it names, or
-- that of the row's place
abbrev pub number_by : Planned → HeapEntries → RowColumn → ℕ → ColumnKind → ℕ
number_by plan heaps column placed U8Pad = number_of_cell column.cell
number_by plan heaps column placed U16 = number_of_cell column.cell
number_by plan heaps column placed U32 = number_of_cell column.cell
number_by plan heaps column placed Text = entry_place heaps.texts (text_entry (text_of_cell column.cell))
number_by plan heaps column placed Guid = guid_number heaps.guids column.cell
number_by plan heaps column placed Blob = entry_place heaps.blobs (blob_entry (blob_of_cell column.cell))
number_by plan heaps column placed Sig = entry_place heaps.blobs (blob_entry (sig_blob plan column.row))
number_by plan heaps column placed (Index table) = row_named plan (Index table) column.cell
number_by plan heaps column placed (Coded kind) = row_named plan (Coded kind) column.cell
number_by plan heaps column placed _ = placed

abbrev pub column_number : Planned → HeapEntries → ℕ → RowColumn → ℕ
column_number plan heaps placed column = number_by plan heaps column placed column.kind

-- the numbers of the row at a place of its table
abbrev pub row_numbers : Planned → Placed → HeapEntries → ℕ → ℕ × Token → List ℕ
row_numbers plan placed heaps table row =
    map
    (λ column.
    column_number plan heaps (unwrap_or (slice_get (numbers_by_place plan placed table column.kind) row.0) 0) column)
    (columns_held plan table row.1)

-- those of the rows of a table, in the order in which they are written
abbrev pub table_numbers : Planned → Placed → HeapEntries → ℕ → List (List ℕ)
table_numbers plan placed heaps table =
    map (row_numbers plan placed heaps table) (enumerate_from 0 (rows_in plan.lists table))

-- those of all tables, by their numbers
unfoldable pub written_rows : Planned → Placed → List (List (List ℕ))
written_rows plan placed = map (table_numbers plan placed (written_entries plan)) table_range
