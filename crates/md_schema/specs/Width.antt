-- The widths of columns: ECMA-335 II.24.2.6.
use Rattle.std.specs.Prelude.{ℕ, ◌-◌, ◌^◌, ◌==◌, nat_lt, bit_and, List, [], ◌∷◌, Option, Some, None, Bool, true}
use Rattle.std.specs.Prelude.{if◌then◌else◌, slice_index_or}
use Rattle.std.specs.List.{list_all}
use Rattle.md_schema.specs.CodedKind.{tables_of, tag_bits_of}
use Rattle.md_schema.specs.declared.column_width.Counts.{Counts}
use Rattle.md_schema.specs.declared.column.ColumnKind.{ColumnKind}
use Rattle.md_schema.specs.declared.column.ColumnKind.TheVariants.{U8Pad, U16, U32, Text, Guid, Blob, Sig, Index}
use Rattle.md_schema.specs.declared.column.ColumnKind.TheVariants.{Coded, Start, Rva, Offset}

-- the rows of a table; a number past the counts has none
abbrev pub rows_of : Counts → ℕ → ℕ
rows_of counts number = slice_index_or counts.rows number 0

-- whether each row of the table has a number of 16 bits, less the bits of the tag; an unused tag asks for nothing
abbrev pub is_small : Counts → ℕ → Option ℕ → Bool
is_small counts bits None = true
is_small counts bits (Some number) = nat_lt (rows_of counts number) (2 ^ (16 - bits))

-- 2 bytes where this holds of every table that may be named, else 4
abbrev pub index_width_of : Counts → ℕ → List (Option ℕ) → ℕ
index_width_of counts bits named = if list_all (is_small counts bits) named then 2 else 4

-- 4 bytes where the heap's bit is set, else 2
abbrev pub heap_width_of : Counts → ℕ → ℕ
heap_width_of counts bit = if bit_and counts.heap_sizes bit == 0 then 2 else 4

abbrev pub column_width_of : ColumnKind → Counts → ℕ
column_width_of U8Pad counts = 2
column_width_of U16 counts = 2
column_width_of U32 counts = 4
column_width_of Text counts = heap_width_of counts 1
column_width_of Guid counts = heap_width_of counts 2
column_width_of Blob counts = heap_width_of counts 4
column_width_of Sig counts = heap_width_of counts 4
column_width_of (Index number) counts = index_width_of counts 0 (Some number ∷ [])
column_width_of (Coded kind) counts = index_width_of counts (tag_bits_of kind) (tables_of kind)
column_width_of (Start number) counts = index_width_of counts 0 (Some number ∷ [])
column_width_of Rva counts = 4
column_width_of Offset counts = 4
