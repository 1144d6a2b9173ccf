use Rattle.std.proofs.Common.{[], ℕ, List, length, ap, ◌∙◌, refl, arith}
use Rattle.std.proofs.lemmas.List.{get_or_read, length-set}
use Rattle.std.proofs.lemmas.List.FromFn.{fill_by_all}
use Rattle.md_tables.proofs.HeaderLemmas.{fill-next}
use Rattle.md_write.specs.TableRows.{row_count, row_counts}
use Rattle.md_write.proofs.counts.counts_of_rows.Goals as goal

pub loop-table-init : goal.loop-table-init
loop-table-init c = record { long = refl; each = λ k h. absurd (omega arith) }

pub loop-table-preserved : goal.loop-table-preserved
loop-table-preserved c =
    let inv = c.loop-table.invariant in
    let tables = c.args.tables.now in
    let read = get_or_read tables c.loop-table.table c.index-tables-table.result (omega arith) c.index-tables-table.is [] in
    record {
      long = length-set c.loop-table.rows c.loop-table.table c.len.result ∙ inv.long;
      each = fill-next (row_count tables) c.loop-table.rows c.loop-table.table c.len.result (c.len.ensures ∙ ap length read) (omega arith) inv.each;
    }

pub returns : goal.returns
unfolding row_counts
returns c =
    let inv = c.loop-table.invariant in
    ap (λ (rows : List ℕ). record { rows = rows; heap_sizes = c.args.heap_sizes })
    (fill_by_all (row_count c.args.tables.now) c.loop-table.rows 64 0 inv.long (λ k h. inv.each k (omega arith)))
