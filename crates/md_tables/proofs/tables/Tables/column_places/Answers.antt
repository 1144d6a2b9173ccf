-- The places are those of the column.
use Rattle.std.proofs.Common.{ap, ◌∙◌}
use Rattle.md_schema.specs.Cell.{read_width}
use Rattle.md_schema.specs.Column.{seen_column}
use Rattle.md_tables.proofs.CellLemmas.{table_below}
use Rattle.md_tables.proofs.ColumnLemmas.{reads_column}
use Rattle.md_tables.proofs.tables.Tables.column_places.Goals as goal

pub row_width-requires : goal.row_width-requires
row_width-requires c = table_below c.args.stream.now c.args.self.now c.args.table 1 c.requires.opened c.requires.row

pub returns : goal.returns
returns c =
    let found = seen_column c.in-Some.found in
    reads_column c.args.stream.now c.args.self.now c.args.table c.args.column found _ c.requires.opened c.in-Some.ensures
    c.column_start.ensures c.row_width.ensures (c.read_width.ensures ∙ ap (read_width found.kind) c.counts.ensures)
