-- What the schema says of one table: ECMA-335 II.22.
use Rattle.std.specs.Prelude.{ℕ, suc, ◌==◌, List, [], ◌∷◌, Option, Some, None, Bool, false, slice_get}
use Rattle.std.specs.List.{find, position}
use Rattle.std.specs.Option.{option_map, option_and_then}
use Rattle.md_schema.specs.Column.{ColumnOf, seen_columns}
use Rattle.md_schema.specs.Schema.{TableOf, tables}
use Rattle.md_schema.specs.declared.column.ColumnKind.{ColumnKind}
use Rattle.md_schema.specs.declared.column.ColumnKind.TheVariants.{Start}
use Rattle.md_schema.specs.declared.holder.Holder.{Holder}
use Rattle.md_schema.specs.declared.holder.Holder.TheVariants.{Owner}
use Rattle.md_schema.specs.declared.schema.Table.{Table}

-- the table of this number
abbrev pub table_entry_of : ℕ → Option TableOf
table_entry_of number = find (λ table. table.number == number) tables

abbrev pub table_name_of : ℕ → Option (List ℕ)
table_name_of number = option_map (λ table. table.name) (table_entry_of number)

abbrev pub columns_of : ℕ → Option (List ColumnOf)
columns_of number = option_map (λ table. table.columns) (table_entry_of number)

abbrev pub column_of : ℕ → ℕ → Option ColumnOf
column_of number column = option_and_then (λ columns. slice_get columns column) (columns_of number)

abbrev pub holder_of : ℕ → Option Holder
holder_of number = option_map (λ table. table.holder) (table_entry_of number)

-- the owner that a table has if its rows stand in runs
abbrev pub owner_in : Holder → Option ℕ
owner_in (Owner owner) = Some owner
owner_in _ = None

-- the table whose rows own runs of the rows of this one
abbrev pub owner_of : ℕ → Option ℕ
owner_of number = option_and_then owner_in (holder_of number)

-- whether a column starts runs in the table
abbrev pub is_start : ℕ → ColumnKind → Bool
is_start number (Start other) = other == number
is_start number _ = false

-- the number of the owner's column that starts runs in the table
abbrev pub start_column_of : ℕ → ℕ → Option ℕ
start_column_of owner number =
    option_and_then (λ columns. position (λ column. is_start number column.kind) columns) (columns_of owner)

-- a table of the code, as the standard gives it
abbrev pub seen_table : ℕ → Table → TableOf
seen_table number table =
    record { number = number; name = table.name.now; holder = table.holder; columns = seen_columns table.columns.now }

-- the tables that stand at places from n on, with their numbers
abbrev pub numbered_tables : ℕ → List (Option Table) → List TableOf
numbered_tables n [] = []
numbered_tables n (None ∷ xs) = numbered_tables (suc n) xs
numbered_tables n (Some x ∷ xs) = seen_table n x ∷ numbered_tables (suc n) xs
