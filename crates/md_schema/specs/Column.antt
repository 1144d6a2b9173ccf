-- Columns of a table, and which of them are cells: ECMA-335 II.22.
use Rattle.std.specs.Prelude.{ℕ, List, Bool, true, false, map}
use Rattle.md_schema.specs.declared.column.Column.{Column}
use Rattle.md_schema.specs.declared.column.ColumnKind.{ColumnKind}
use Rattle.md_schema.specs.declared.column.ColumnKind.TheVariants.{U8Pad, U16, U32, Text, Guid, Blob, Sig, Index}
use Rattle.md_schema.specs.declared.column.ColumnKind.TheVariants.{Coded, Start, Rva, Offset}

-- a column as the standard gives it: the codes of its name, and what it holds
pub record ColumnOf : Type 0 where
  pub name : List ℕ
  pub kind : ColumnKind

abbrev pub seen_column : Column → ColumnOf
seen_column column = record { name = column.name.now; kind = column.kind }

abbrev pub seen_columns : List Column → List ColumnOf
seen_columns columns = map seen_column columns

-- whether what the column says stands in the row itself
abbrev pub is_cell_kind : ColumnKind → Bool
is_cell_kind U8Pad = true
is_cell_kind U16 = true
is_cell_kind U32 = true
is_cell_kind Text = true
is_cell_kind Guid = true
is_cell_kind Blob = true
is_cell_kind Sig = false
is_cell_kind (Index table) = true
is_cell_kind (Coded kind) = true
is_cell_kind (Start table) = false
is_cell_kind Rva = false
is_cell_kind Offset = false
