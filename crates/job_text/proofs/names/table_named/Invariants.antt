use Rattle.std.proofs.Common.{◌≡◌, ◌-◌}
use Rattle.md_schema.specs.Entry.{table_name_of}
use Rattle.job_text.specs.Names.{first_from, is_called}
use Rattle.job_text.proofs.names.table_named.Given as goal

-- the tables to come have the first of that name
abbrev pub invariant-loop-table : goal.invariant-loop-table
invariant-loop-table l =
    first_from (λ number. is_called l.name (table_name_of number)) (0x2d - l.table) l.table
    ≡ first_from (λ number. is_called l.name (table_name_of number)) 0x2d 0
