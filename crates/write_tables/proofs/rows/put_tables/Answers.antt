use Rattle.std.proofs.Common.{◌≡◌, ℕ, ◌+◌, List, ap, arith}
use Rattle.std.specs.List.{range_with_len}
use Rattle.write_tables.specs.Contents.{rows_contents, table_contents, table_range}
use Rattle.write_tables.specs.WrittenRows.{table_numbers}
use Rattle.write_tables.proofs.ColumnLemmas.{range_next}
use Rattle.write_tables.proofs.GatherLemmas.{gathers_begun, gathers_ended, gathers_item}
use Rattle.write_tables.proofs.rows.put_tables.Goals as goal

pub loop-table-init : goal.loop-table-init
loop-table-init c = gathers_begun (List (List ℕ)) c.args.heaps.now c.new-all.result c.new-all.ensures

pub loop-table-preserved : goal.loop-table-preserved
loop-table-preserved c =
    let plan = c.args.plan.now in
    let n = c.loop-table.table in
    gathers_item ℕ ℕ (List (List ℕ)) (table_contents plan) (λ later. table_numbers plan c.args.placed.now later)
    (range_with_len 0 n) (range_with_len 0 (n + 1)) n (range_with_len 0 n) (range_with_len 0 (n + 1)) n
    c.args.heaps.now c.loop-table.heaps c.put_table.new.heaps c.loop-table.all c.push.new.self c.in_ok-numbers.numbers
    (range_next n) (range_next n) c.in_ok-push.ensures.ok c.loop-table.invariant c.in_ok-numbers.ensures

pub returns : goal.returns
unfolding rows_contents table_range
returns c =
    let plan = c.args.plan.now in
    let n = c.loop-table.table in
    let last : n ≡ 64 = omega arith in
    let all = ap (range_with_len 0) last in
    gathers_ended ℕ ℕ (List (List ℕ)) (table_contents plan) (λ later. table_numbers plan c.args.placed.now later)
    (range_with_len 0 n) (range_with_len 0 64) (range_with_len 0 n) (range_with_len 0 64) c.args.heaps.now c.loop-table.heaps c.loop-table.all
    all all c.loop-table.invariant
