-- What the lists of rows hold: those of the root, the runs that rows own (ECMA-335 II.22, as FieldList of II.22.37),
-- and the rows that links give.
use Rattle.std.specs.Prelude.{ℕ, ◌-◌, List, map, Option, Some, None, if◌then◌else◌}
use Rattle.std.specs.List.{range_with_len}
use Rattle.std.specs.Option.{unwrap_or}
use Rattle.cil_base.specs.Token.{Token}
use Rattle.md_schema.specs.Entry.{start_column_of}
use Rattle.md_schema.specs.LinkedRows.{linked_of, rows_to}
use Rattle.md_schema.specs.Runs.{run_of, table_row_count}
use Rattle.md_schema.specs.declared.link.Link.{Link}
use Rattle.node_model.specs.KeyKinds.{is_root_token}
use Rattle.node_model.specs.Streams.{ImageStreams}
use Rattle.node_model.specs.declared.key.Key.TheVariants.{Owned}
use Rattle.node_model.specs.declared.slot.FaultKind.TheVariants.{BadRange}
use Rattle.node_model.specs.declared.slot.Slot.{Slot}
use Rattle.node_model.specs.declared.slot.Slot.TheVariants as slots
use Rattle.node_model.specs.declared.value.Value.TheVariants as values

abbrev pub tokens_slot : List Token → Slot
tokens_slot ts = slots.Value (values.Tokens ts)

-- the rows of a table from one to before the other
abbrev pub rows_between : ℕ → ℕ × ℕ → List Token
rows_between n run = map (λ rid. record { table = n; rid = rid }) (range_with_len run.0 (run.1 - run.0))

-- the rows of a run; where the numbers are none, the fault is of the column that starts it
abbrev pub run_slot : Token → ℕ → Option (ℕ × ℕ) → Slot
run_slot t n (Some run) = tokens_slot (rows_between n run)
run_slot t n None =
    slots.Fault (record { key = Owned t n; kind = BadRange; column = unwrap_or (start_column_of t.table n) 0 })

-- all rows of a table where the root owns them, else the run of the row
unfoldable pub read_owned : ImageStreams → Token → ℕ → Slot
read_owned s t n =
    if is_root_token t then tokens_slot (rows_to n (table_row_count s.tables n)) else run_slot t n (run_of s.tables t n)

-- all rows of the link's table whose column names this row, in order
unfoldable pub read_linked : ImageStreams → Token → Link → Slot
read_linked s t l = tokens_slot (linked_of s.tables t l)
