use Rattle.std.proofs.Common.{ℕ, ◌≡◌, ◌<◌}
use Rattle.md_schema.specs.Header.{IsSupported, valid_of}
use Rattle.md_tables.proofs.header.unsupported_table.Given as goal

abbrev pub invariant-loop-table : goal.invariant-loop-table
invariant-loop-table l = record { valid : l.valid ≡ valid_of l.stream; lesser : (k : ℕ) → k < l.table → IsSupported l.stream k }
