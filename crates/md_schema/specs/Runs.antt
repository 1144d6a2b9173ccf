-- The run of rows that a row owns: ECMA-335 II.22, as FieldList and MethodList of II.22.37.
use Rattle.std.specs.Prelude.{ℕ, ◌≡◌, ◌<◌, ◌≤◌, ◌+◌, ◌==◌, nat_le, nat_lt, ◌&&◌, ◌||◌, if◌then◌else◌}
use Rattle.std.specs.Prelude.{List, Option, Some, None, IsSome, ◌⊎◌, ◌↔◌}
use Rattle.cil_base.specs.Steps.{◌>>=◌}
use Rattle.cil_base.specs.Token.{Token}
use Rattle.md_schema.specs.Cell.{cell_of}
use Rattle.md_schema.specs.Entry.{start_column_of}
use Rattle.md_schema.specs.Layout.{head_of}
use Rattle.md_schema.specs.Width.{rows_of}

-- the rows of a table
abbrev pub table_row_count : List ℕ → ℕ → ℕ
table_row_count stream table = rows_of (head_of stream).counts table

-- where the next row's run begins: past the last row where there is no next row
unfoldable pub run_end : List ℕ → Token → ℕ → ℕ → ℕ
run_end stream owner table column =
    if owner.rid == table_row_count stream owner.table then table_row_count stream table + 1
    else cell_of stream owner.table (owner.rid + 1) column

-- a run from one number to before the other: empty where they are equal, else of rows that the table has
abbrev pub IsRun : ℕ → ℕ → ℕ → Type 0
IsRun rows start end = (start ≡ end) ⊎ ((1 ≤ start) × (start < end) × (end ≤ rows + 1))

-- the run, or none where the numbers are no run
abbrev pub MatchesRun : ℕ → ℕ → ℕ → Option (ℕ × ℕ) → Type 0
MatchesRun rows start end (Some run) = (run.0 ≡ start) × (run.1 ≡ end) × IsRun rows start end
MatchesRun rows start end None = IsRun rows start end → ⊥

-- the run of `owner` in a table, by the owner's column that starts runs in it
abbrev pub Runs : List ℕ → Token → ℕ → Option (ℕ × ℕ) → Type 0
Runs stream owner table run =
    (column : ℕ) → start_column_of owner.table table ≡ Some column
    → MatchesRun (table_row_count stream table) (cell_of stream owner.table owner.rid column)
    (run_end stream owner table column) run

-- the same as a function: the two numbers, where they are a run
abbrev pub run_between : ℕ → ℕ → ℕ → Option (ℕ × ℕ)
run_between rows start end =
    if (start == end) || (nat_le 1 start && nat_lt start end && nat_le end (rows + 1)) then Some (start, end) else None

unfoldable pub run_of : List ℕ → Token → ℕ → Option (ℕ × ℕ)
run_of stream owner table =
    start_column_of owner.table table >>= λ column.
    run_between (table_row_count stream table) (cell_of stream owner.table owner.rid column)
    (run_end stream owner table column)

-- the function gives the run of the relation, and no other
abbrev pub RunOfRuns : Type 0
RunOfRuns =
    (stream : List ℕ) (owner : Token) (table : ℕ) (run : Option (ℕ × ℕ))
    → IsSome (start_column_of owner.table table) → (run_of stream owner table ≡ run) ↔ Runs stream owner table run
