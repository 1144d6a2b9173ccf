use Rattle.std.proofs.Common.{◌≡◌, ◌-◌, ◌≤◌}
use Rattle.std.specs.List.{filter}
use Rattle.md_schema.specs.LinkedRows.{is_linked, rows_to}
use Rattle.md_tables.proofs.tables.Tables.linked.Given as goal

abbrev pub invariant-loop-rid : goal.invariant-loop-rid
invariant-loop-rid l = record {
  rows : l.rows ≡ filter (is_linked l.stream l.token l.fn.link) (rows_to l.table (l.rid - 1));
  first : 1 ≤ l.rid;
}
