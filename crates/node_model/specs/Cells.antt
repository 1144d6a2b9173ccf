-- What a number in a cell says: ECMA-335 II.22, II.24.2.3 to II.24.2.6.
use Rattle.std.specs.Prelude.{ℕ, List, Option, Some, None, nat_le, if◌then◌else◌}
use Rattle.std.specs.Option.{option_map}
use Rattle.md_heaps.specs.Entries.{text, blob, guid}
use Rattle.md_heaps.specs.declared.guid.GuidAt.{GuidAt}
use Rattle.md_heaps.specs.declared.guid.GuidAt.TheVariants as guids
use Rattle.md_schema.specs.Coded.{coded_of}
use Rattle.md_schema.specs.Reference.{index_of}
use Rattle.md_schema.specs.Runs.{table_row_count}
use Rattle.md_schema.specs.declared.coded.Coded.{Coded as Reference}
use Rattle.md_schema.specs.declared.coded.Coded.TheVariants.{Null, Is, BadTag, Beyond}
use Rattle.md_schema.specs.declared.column.ColumnKind.{ColumnKind}
use Rattle.md_schema.specs.declared.column.ColumnKind.TheVariants.{U8Pad, U16, U32, Text, Guid, Blob, Index, Coded}
use Rattle.node_model.specs.Streams.{ImageStreams}
use Rattle.node_model.specs.declared.cell.Cell.{Cell}
use Rattle.node_model.specs.declared.cell.Cell.TheVariants as cells

abbrev pub guid_cell : GuidAt → Option Cell
guid_cell guids.Null = Some cells.NoGuid
guid_cell (guids.Is bytes) = Some (cells.Guid bytes)
guid_cell guids.Missing = None

-- a row of 0 is null, whatever the tag; else the tag has a table, and the table has the row
abbrev pub reference_cell : List ℕ → Reference → Option Cell
reference_cell tables Null = Some cells.NoRef
reference_cell tables (Is t) = if nat_le t.rid (table_row_count tables t.table) then Some (cells.Ref t) else None
reference_cell tables (BadTag tag) = None
reference_cell tables (Beyond rid) = None

-- what a number says in a column of a kind, none where it is at fault; the columns of no cells say nothing
abbrev pub cell_said : ImageStreams → ColumnKind → ℕ → Option Cell
cell_said s U8Pad n = Some (cells.Num n)
cell_said s U16 n = Some (cells.Num n)
cell_said s U32 n = Some (cells.Num n)
cell_said s Text n = option_map cells.Text (text s.strings n)
cell_said s Guid n = guid_cell (guid s.guids n)
cell_said s Blob n = option_map cells.Blob (blob s.blobs n)
cell_said s (Index table) n = reference_cell s.tables (index_of table n)
cell_said s (Coded kind) n = reference_cell s.tables (coded_of kind n)
cell_said s _ n = None
