use Rattle.std.proofs.Common.{[], ◌++◌, ap, ◌∙◌, arith}
use Rattle.std.proofs.lemmas.List.{get_or_read}
use Rattle.md_write.specs.TableRows.{rows_at}
use Rattle.md_write.specs.TablesStream.{count_bytes}
use Rattle.md_write.proofs.WriteLemmas.{next-below, none-below}
use Rattle.md_write.proofs.counts.push_counts.Goals as goal

pub loop-table-init : goal.loop-table-init
loop-table-init c = none-below (λ table. count_bytes (rows_at c.args.tables.now table)) c.args.out.now

pub loop-table-preserved : goal.loop-table-preserved
loop-table-preserved c =
    let tables = c.args.tables.now in
    let rows = c.index-tables-table.result in
    let read = get_or_read tables c.loop-table.table rows (omega arith) c.index-tables-table.is [] in
    next-below (λ table. count_bytes (rows_at tables table)) c.args.out.now c.loop-table.out c.push_count.new.out (count_bytes rows) c.loop-table.table c.loop-table.invariant
    (c.in_ok-push_count.ensures ∙ ap (λ r. c.loop-table.out ++ count_bytes r) c.as_slice.ensures)
    (ap count_bytes read)
