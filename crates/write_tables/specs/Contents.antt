-- What is put into the heaps, in order, and the entries of the heaps after it: ECMA-335 II.24.2.3 to II.24.2.5. The order
-- is this library's own.
use Rattle.std.specs.Prelude.{ℕ, List, [], ◌∷◌, ◌++◌, fold, map, Option, Some, None}
use Rattle.std.specs.List.{flat_map, range_with_len}
use Rattle.std.specs.Option.{option_map_or}
use Rattle.cil_base.specs.Token.{Token}
use Rattle.md_heaps.specs.LaidHeaps.{HeapEntries, first_entries, with_blob, with_guid, with_text, with_user}
use Rattle.md_schema.specs.declared.column.ColumnKind.{ColumnKind}
use Rattle.md_schema.specs.declared.column.ColumnKind.TheVariants.{Text, Guid, Blob, Sig}
use Rattle.node_model.specs.RowTexts.{blob_of_cell, text_of_cell}
use Rattle.node_model.specs.declared.cell.Cell.{Cell}
use Rattle.node_model.specs.declared.cell.Cell.TheVariants as cells
use Rattle.write_plan.specs.Planned.{Planned}
use Rattle.write_plan.specs.Written.{rows_in}
use Rattle.write_tables.specs.RowColumns.{RowColumn, columns_held, sig_blob}
use Rattle.write_tables.specs.UserStrings.{method_strings}

-- something that has an entry in a heap
pub data HeapContent : Type 0 where
  AsText : List ℕ → HeapContent
  AsGuid : List ℕ → HeapContent
  AsBlob : List ℕ → HeapContent
  AsUser : List ℕ → HeapContent

-- the entries once it is put in: each distinct content has one
abbrev pub with_content : HeapEntries → HeapContent → HeapEntries
with_content old (AsText content) = with_text old content
with_content old (AsGuid content) = with_guid old content
with_content old (AsBlob content) = with_blob old content
with_content old (AsUser content) = with_user old content

abbrev pub with_contents : HeapEntries → List HeapContent → HeapEntries
with_contents old contents = fold with_content old contents

-- the GUID of a cell; the null GUID has no entry
abbrev pub guid_of_cell : Option Cell → Option (List ℕ)
guid_of_cell (Some (cells.Guid bytes)) = Some bytes
guid_of_cell _ = None

abbrev pub guid_contents : Option Cell → List HeapContent
guid_contents cell = option_map_or (λ bytes. AsGuid bytes ∷ []) (guid_of_cell cell) []

abbrev pub contents_by : ColumnKind → Option Cell → List ℕ → List HeapContent
contents_by Text cell sig = AsText (text_of_cell cell) ∷ []
contents_by Guid cell sig = guid_contents cell
contents_by Blob cell sig = AsBlob (blob_of_cell cell) ∷ []
contents_by Sig cell sig = AsBlob sig ∷ []
contents_by _ cell sig = []

-- what a column of a row puts in
abbrev pub column_contents : Planned → RowColumn → List HeapContent
column_contents plan column = contents_by column.kind column.cell (sig_blob plan column.row)

-- column by column
abbrev pub row_contents : Planned → ℕ → Token → List HeapContent
row_contents plan table t = flat_map (column_contents plan) (columns_held plan table t)

-- row by row, in the order in which the rows are written
abbrev pub table_contents : Planned → ℕ → List HeapContent
table_contents plan table = flat_map (row_contents plan table) (rows_in plan.lists table)

-- the numbers that a table can have in a tables stream: Valid has 64 bits (II.24.2.6)
unfoldable pub table_range : List ℕ
table_range = range_with_len 0 64

-- table by table, by their numbers
unfoldable pub rows_contents : Planned → List HeapContent
rows_contents plan = flat_map (table_contents plan) table_range

-- the user strings, method by method and instruction by instruction
unfoldable pub user_contents : Planned → List HeapContent
user_contents plan = flat_map (λ strings. map AsUser strings) (method_strings plan)

-- the entries of the heaps of what is planned
unfoldable pub written_entries : Planned → HeapEntries
written_entries plan = with_contents first_entries (rows_contents plan ++ user_contents plan)
