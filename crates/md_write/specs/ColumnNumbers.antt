-- Which numbers fit the columns of a row: ECMA-335 II.22 and II.24.2.6.
use Rattle.std.specs.Prelude.{ℕ, ◌≡◌, ◌<◌, ◌≤◌, ◌+◌, ◌^◌, bit_and, List, [], ◌∷◌}
use Rattle.md_schema.specs.Column.{ColumnOf}
use Rattle.md_schema.specs.Reference.{Refers}
use Rattle.md_schema.specs.Width.{rows_of}
use Rattle.md_schema.specs.declared.column_width.Counts.{Counts}
use Rattle.md_schema.specs.declared.coded.Coded.{Coded}
use Rattle.md_schema.specs.declared.coded.Coded.TheVariants.{Null, Is, BadTag, Beyond}
use Rattle.md_schema.specs.declared.column.ColumnKind.{ColumnKind}
use Rattle.md_schema.specs.declared.column.ColumnKind.TheVariants.{U8Pad, U16, U32, Text, Guid, Blob, Sig, Index}
use Rattle.md_schema.specs.declared.column.ColumnKind.TheVariants.{Coded as Choice, Start, Rva, Offset}
use Rattle.md_tables.specs.Written.{Fits}

-- an index into a heap, which passes 2^16 only where the heap's bit is set
pub record IsHeapIndex (counts : Counts) (bit index : ℕ) : Type 0 where
  pub small : bit_and counts.heap_sizes bit ≡ 0 → index < 2 ^ 16
  pub bounded : index < 2 ^ 32

-- none is named, or a row that the table has
abbrev pub IsThereOrNull : Counts → Coded → Type 0
IsThereOrNull counts Null = Unit {0}
IsThereOrNull counts (Is token) = token.rid ≤ rows_of counts token.table
IsThereOrNull counts (BadTag tag) = ⊥
IsThereOrNull counts (Beyond rid) = ⊥

-- the number of a column that names rows
abbrev pub NamesThere : Counts → ColumnKind → ℕ → Type 0
NamesThere counts kind number = (named : Coded) × Refers kind number named × IsThereOrNull counts named

-- where a run begins in a table: at most past the last row, and not at 2^16 where the table's numbers have two bytes
pub record IsStartIn (counts : Counts) (table start : ℕ) : Type 0 where
  pub last : start ≤ rows_of counts table + 1
  pub room : rows_of counts table ≡ 65535 → start < 65536

-- a number that a column of this kind may hold
abbrev pub IsColumnNumber : Counts → ColumnKind → ℕ → Type 0
IsColumnNumber counts U8Pad number = number < 2 ^ 8
IsColumnNumber counts U16 number = number < 2 ^ 16
IsColumnNumber counts U32 number = number < 2 ^ 32
IsColumnNumber counts Text number = IsHeapIndex counts 1 number
IsColumnNumber counts Guid number = IsHeapIndex counts 2 number
IsColumnNumber counts Blob number = IsHeapIndex counts 4 number
IsColumnNumber counts Sig number = IsHeapIndex counts 4 number
IsColumnNumber counts (Index table) number = NamesThere counts (Index table) number
IsColumnNumber counts (Choice kind) number = NamesThere counts (Choice kind) number
IsColumnNumber counts (Start table) number = IsStartIn counts table number
IsColumnNumber counts Rva number = number < 2 ^ 32
IsColumnNumber counts Offset number = number < 2 ^ 32

-- a number for each column
abbrev pub AreColumnNumbers : Counts → List ColumnOf → List ℕ → Type 0
AreColumnNumbers counts [] numbers = numbers ≡ []
AreColumnNumbers counts (column ∷ columns) [] = ⊥
AreColumnNumbers counts (column ∷ columns) (number ∷ numbers) =
    IsColumnNumber counts column.kind number × AreColumnNumbers counts columns numbers

-- such numbers fit the bytes of their columns, where no table has too many rows
abbrev pub NumbersFit : Type 0
NumbersFit =
    (counts : Counts) (columns : List ColumnOf) (numbers : List ℕ)
    → ((table : ℕ) → rows_of counts table < 2 ^ 24)
    → AreColumnNumbers counts columns numbers → Fits counts columns numbers
