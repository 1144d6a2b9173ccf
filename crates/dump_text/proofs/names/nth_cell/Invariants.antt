use Rattle.std.proofs.Common.{◌≡◌, drop, slice_get}
use Rattle.md_schema.specs.Column.{seen_columns}
use Rattle.dump_text.specs.Rows.{names_of_cells}
use Rattle.dump_text.proofs.names.nth_cell.Given as goal

-- what stands at the number stands in the rest at what is left of it
abbrev pub invariant-loop-column : goal.invariant-loop-column
invariant-loop-column l =
    slice_get (names_of_cells (seen_columns (drop l.column-index l.columns))) l.left
    ≡ slice_get (names_of_cells (seen_columns l.columns)) l.number
