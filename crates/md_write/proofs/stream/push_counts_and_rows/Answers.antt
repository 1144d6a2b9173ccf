use Rattle.std.proofs.Common.{ℕ, List, ◌++◌, ap, ◌∙◌, append_assoc}
use Rattle.md_schema.specs.declared.column_width.Counts.{Counts}
use Rattle.md_write.specs.TableRows.{counts_of_rows, rows_at}
use Rattle.md_write.specs.TablesStream.{bytes_below, count_bytes, counts_and_rows, table_bytes}
use Rattle.md_write.proofs.stream.push_counts_and_rows.Goals as goal

pub returns : goal.returns
unfolding counts_and_rows
returns c =
    let tables = c.args.tables.now in
    let counted = bytes_below (λ table. count_bytes (rows_at tables table)) 64 in
    let rows : Counts → List ℕ = λ counts. bytes_below (λ table. table_bytes counts table (rows_at tables table)) 64 in
    let last = rows (counts_of_rows c.args.heap_sizes tables) in
    c.in_ok-push_rows.ensures ∙ ap (λ counts. c.push_counts.new.out ++ rows counts) c.counts_of_rows-counts.ensures
    ∙ ap (λ s. s ++ last) c.in_ok-push_counts.ensures ∙ append_assoc c.args.out.now counted last
