use Rattle.std.proofs.Common.{[], ◌++◌, ap, sym, ◌∙◌, arith, slice_get}
use Rattle.std.proofs.lemmas.List.{get_or_read}
use Rattle.md_write.specs.TableRows.{rows_at}
use Rattle.md_write.specs.TablesStream.{table_bytes}
use Rattle.md_write.proofs.WriteLemmas.{next-below, none-below}
use Rattle.md_write.proofs.rows.push_rows.Goals as goal

pub loop-table-init : goal.loop-table-init
loop-table-init c = none-below (λ table. table_bytes c.args.counts.now table (rows_at c.args.tables.now table)) c.args.out.now

pub push_table-requires : goal.push_table-requires
push_table-requires c =
    let tables = c.args.tables.now in
    let read = get_or_read tables c.loop-table.table c.index-tables-table.result (omega arith) c.index-tables-table.is [] in
    λ place numbers at. c.requires.fit c.loop-table.table place numbers (ap (λ r. slice_get r place) (sym (c.as_slice.ensures ∙ read)) ∙ at)

pub loop-table-preserved : goal.loop-table-preserved
loop-table-preserved c =
    let tables = c.args.tables.now in
    let counts = c.args.counts.now in
    let table = c.loop-table.table in
    let rows = c.index-tables-table.result in
    let read = get_or_read tables table rows (omega arith) c.index-tables-table.is [] in
    next-below (λ t. table_bytes counts t (rows_at tables t)) c.args.out.now c.loop-table.out c.push_table.new.out (table_bytes counts table rows) table c.loop-table.invariant
    (c.in_ok-push_table.ensures ∙ ap (λ r. c.loop-table.out ++ table_bytes counts table r) c.as_slice.ensures)
    (ap (table_bytes counts table) read)
