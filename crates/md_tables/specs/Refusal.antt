-- When a tables stream is refused: ECMA-335 II.24.2.6.
use Rattle.std.specs.Prelude.{ℕ, ◌≡◌, ◌<◌, ◌≤◌, true, List, length, slice_index, None}
use Rattle.md_schema.specs.Entry.{columns_of}
use Rattle.md_schema.specs.Header.{IsSupported, is_present}
use Rattle.md_schema.specs.Layout.{IsWhole}
use Rattle.md_tables.specs.declared.tables.TablesRefusal.{TablesRefusal}
use Rattle.md_tables.specs.declared.tables.TablesRefusal.TheVariants.{UnsupportedTable, BadHeapSizes, BadTables}

-- the first table of the stream that is not one of the 38
pub record IsUnsupported (stream : List ℕ) (table : ℕ) : Type 0 where
  pub within : table < 64
  pub present : is_present stream table ≡ true
  pub unknown : columns_of table ≡ None
  pub first : (lesser : ℕ) → lesser < table → IsSupported stream lesser

-- what comes before a stream can be called cut
pub record IsReadable (stream : List ℕ) : Type 0 where
  pub supported : (table : ℕ) → table < 64 → IsSupported stream table
  pub heaps : slice_index stream 6 < 8

-- when each refusal comes
abbrev pub RefusesTables : List ℕ → TablesRefusal → Type 0
RefusesTables stream (UnsupportedTable table) = (24 ≤ length stream) × IsUnsupported stream table
RefusesTables stream (BadHeapSizes sizes) =
    (24 ≤ length stream) × ((table : ℕ) → table < 64 → IsSupported stream table)
    × (sizes ≡ slice_index stream 6) × (8 ≤ sizes)
RefusesTables stream BadTables = (24 ≤ length stream → IsReadable stream) × (IsWhole stream → ⊥)

-- a stream is opened, or has one refusal
abbrev pub WholeIsNotRefused : Type 0
WholeIsNotRefused =
    (stream : List ℕ) (refusal other : TablesRefusal) → RefusesTables stream refusal
    → (IsWhole stream → ⊥) × (RefusesTables stream other → refusal ≡ other)
