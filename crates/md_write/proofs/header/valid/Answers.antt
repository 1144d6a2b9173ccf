use Rattle.std.proofs.Common.{◌+◌, ◌^◌, ◌≤◌, ℕ, [], cond, sym, ap, ◌∙◌, arith}
use Rattle.std.proofs.Math.Nat.{pow-le-pow_right}
use Rattle.std.proofs.lemmas.List.{get_or_read}
use Rattle.md_schema.specs.Header.{sum_below}
use Rattle.md_tables.proofs.HeaderLemmas.{sum_below-more, sum_below-zero}
use Rattle.md_write.specs.TableRows.{rows_at}
use Rattle.md_write.specs.TablesStream.{has_rows}
use Rattle.md_write.proofs.BelowLemmas.{bits-small}
use Rattle.md_write.proofs.header.valid.Goals as goal

pub loop-table-init : goal.loop-table-init
loop-table-init c = sym (sum_below-zero (λ k. cond (has_rows (rows_at c.args.tables.now k)) (2 ^ k) 0))

pub overflow_add-valid : goal.overflow_add-valid
overflow_add-valid c =
    let tables = c.args.tables.now in
    let table = c.loop-table.table in
    let power : ℕ → ℕ = λ k. cond (has_rows (rows_at tables k)) (2 ^ k) 0 in
    let read = get_or_read tables table c.index-tables-table.result (omega arith) c.index-tables-table.is [] in
    let bit = c.bit-valid.ensures ∙ ap (λ r. cond (has_rows r) (2 ^ table) 0) (c.as_slice.ensures ∙ read) in
    let more = sum_below-more power table in
    let small = bits-small (λ k. has_rows (rows_at tables k)) (table + 1) in
    let up : 2 ^ (table + 1) ≤ 2 ^ 64 = pow-le-pow_right {n = 2} (omega arith) {i = table + 1} {j = 64} (omega arith) in
    omega (arith, bit, more, small, up, c.loop-table.invariant)

pub loop-table-preserved : goal.loop-table-preserved
loop-table-preserved c =
    let tables = c.args.tables.now in
    let table = c.loop-table.table in
    let power : ℕ → ℕ = λ k. cond (has_rows (rows_at tables k)) (2 ^ k) 0 in
    let read = get_or_read tables table c.index-tables-table.result (omega arith) c.index-tables-table.is [] in
    let bit = c.bit-valid.ensures ∙ ap (λ r. cond (has_rows r) (2 ^ table) 0) (c.as_slice.ensures ∙ read) in
    ap (λ (n : ℕ). n + c.bit-valid.result) c.loop-table.invariant ∙ ap (λ (n : ℕ). sum_below power table + n) bit ∙ sym (sum_below-more power table)
