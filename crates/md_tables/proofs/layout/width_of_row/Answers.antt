use Rattle.std.proofs.Common.{sym, ◌∙◌}
use Rattle.md_schema.specs.Column.{seen_columns}
use Rattle.md_tables.proofs.LayoutLemmas.{columns_width-seen, table_row_width-none, table_row_width-some}
use Rattle.md_tables.proofs.layout.width_of_row.Goals as goal

pub returns-in-Some-clause-width : goal.returns-in-Some-clause-width
returns-in-Some-clause-width c =
    let columns = c.in-Some.columns.now in
    let row = table_row_width-some c.args.counts.now c.args.table (seen_columns columns) c.in-Some.ensures.columns in
    c.width_of_columns.ensures.sum ∙ sym (columns_width-seen c.args.counts.now columns) ∙ sym row

pub returns-in-None-clause-width : goal.returns-in-None-clause-width
returns-in-None-clause-width c = sym (table_row_width-none c.args.counts.now c.args.table c.in-None.ensures.columns)
