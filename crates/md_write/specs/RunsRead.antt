-- The runs that are read of rows that were written: ECMA-335 II.22, as FieldList and MethodList of II.22.37.
use Rattle.std.specs.Prelude.{ℕ, ◌≡◌, ◌<◌, ◌≤◌, ◌+◌, ◌==◌, List, Some, if◌then◌else◌}
use Rattle.cil_base.specs.Token.{Token}
use Rattle.md_schema.specs.Entry.{start_column_of}
use Rattle.md_schema.specs.Runs.{run_of}
use Rattle.md_write.specs.TableRows.{written_number, row_count}
use Rattle.md_write.specs.TablesRead.{HoldsRows}

-- where the runs of a table begin, by a column of their owners: at a row or past the last one, and none before the one
-- of the owner before it
pub record StartsRise (tables : List (List (List ℕ))) (owner table column : ℕ) : Type 0 where
  pub within : (rid : ℕ) → 1 ≤ rid → rid ≤ row_count tables owner
      → (1 ≤ written_number tables owner rid column)
      × (written_number tables owner rid column ≤ row_count tables table + 1)
  pub rise : (rid : ℕ) → 1 ≤ rid → rid < row_count tables owner
      → written_number tables owner rid column ≤ written_number tables owner (rid + 1) column

-- where the run of an owner ends: where that of the next one begins, or past the last row
abbrev pub end_of_run : List (List (List ℕ)) → ℕ → ℕ → ℕ → ℕ → ℕ
end_of_run tables owner table column rid =
    if rid == row_count tables owner then row_count tables table + 1 else written_number tables owner (rid + 1) column

-- each owner has the run from its start to the next
abbrev pub RunsRead : Type 0
RunsRead =
    (heap_sizes : ℕ) (tables : List (List (List ℕ))) (stream : List ℕ) (owner : Token) (table column : ℕ)
    → HoldsRows heap_sizes tables stream
    → start_column_of owner.table table ≡ Some column
    → StartsRise tables owner.table table column
    → 1 ≤ owner.rid → owner.rid ≤ row_count tables owner.table
    → run_of stream owner table
    ≡ Some (written_number tables owner.table owner.rid column, end_of_run tables owner.table table column owner.rid)
