use Rattle.std.proofs.Common.{◌≡◌, ◌≤◌, ◌*◌, take}
use Rattle.std.specs.List.{sum_by}
use Rattle.md_schema.specs.Width.{column_width_of}
use Rattle.md_tables.proofs.layout.width_of_columns.Given as goal

abbrev pub invariant-loop-column : goal.invariant-loop-column
invariant-loop-column l = record {
  sum : l.total ≡ sum_by (λ column. column_width_of column.kind l.counts) (take l.column-index l.columns);
  few : l.total ≤ 4 * l.column-index;
}
