use Rattle.std.proofs.Common.{◌<◌, ◌∙◌, [], ◌∷◌, ap, arith, get_or, length, replicate, subst, sym, take, set}
use Rattle.std.specs.Prelude.{fold}
use Rattle.std.specs.List.{AllByRecursion, IsDistinct}
use Rattle.std.proofs.lemmas.List.{get_or_default, length-set}
use Rattle.std.proofs.lemmas.List.Sums.{fold-append}
use Rattle.node_model.specs.Keys.{same_token}
use Rattle.write_plan.specs.GraphWalk.{rows_of_table}
use Rattle.write_plan.specs.Written.{in_link_order, table_written}
use Rattle.write_plan.specs.inner.Taken.{value_kept}
use Rattle.write_plan.proofs.DistinctLemmas.{order_distinct, order_length, rows_distinct}
use Rattle.write_plan.proofs.KeptLemmas.{front_more}
use Rattle.write_plan.proofs.NumberLemmas.{small_item, walk_small}
use Rattle.write_plan.proofs.writing.written_lists.Goals as goal

pub of-requires-clause-distinct : goal.of-requires-clause-distinct
of-requires-clause-distinct c =
    let table = get_or c.walk_order-table-items.result.now c.loop-table.table-index 0 in
    subst (IsDistinct same_token) (sym (c.in_ok-ordered.ensures ∙ ap (in_link_order (value_kept c.args.kept.now) c.loop-table.lists table) c.of_table.ensures))
    (order_distinct (value_kept c.args.kept.now) c.loop-table.lists table (rows_of_table table c.args.rows.now) (rows_distinct table c.args.rows.now c.requires.distinct))

pub of-requires-clause-few : goal.of-requires-clause-few
of-requires-clause-few c =
    let table = get_or c.walk_order-table-items.result.now c.loop-table.table-index 0 in
    let long = ap length (c.in_ok-ordered.ensures ∙ ap (in_link_order (value_kept c.args.kept.now) c.loop-table.lists table) c.of_table.ensures)
    ∙ order_length (value_kept c.args.kept.now) c.loop-table.lists table (rows_of_table table c.args.rows.now) in
    let small = small_item c.walk_order-table-items.result.now c.loop-table.table-index table (subst (AllByRecursion (λ n. n < 64)) (sym c.walk_order-table-items.ensures) walk_small) c.loop-table-test.true (get_or_default c.walk_order-table-items.result.now c.loop-table.table-index 0 table c.loop-table-test.true) in
    omega (arith, long, c.requires.few table small)

pub set-requires : goal.set-requires
set-requires c = omega (arith, c.loop-table.invariant.1)

pub loop-table-preserved : goal.loop-table-preserved
loop-table-preserved c =
    let ts = c.walk_order-table-items.result.now in
    let i = c.loop-table.table-index in
    let table = get_or ts i 0 in
    let rows = c.args.rows.now in
    let value = value_kept c.args.kept.now in
    let ordered = c.in_ok-numbered.ensures ∙ c.in_ok-ordered.ensures ∙ ap (in_link_order value c.loop-table.lists table) c.of_table.ensures in
    let now = c.set.ensures.rest ∙ ap (set c.loop-table.lists table) ordered in (
      now ∙ ap (λ lists. table_written value rows lists table) c.loop-table.invariant.0
          ∙ sym (fold-append (table_written value rows) (replicate 256 []) (take i ts) (table ∷ []))
          ∙ ap (fold (table_written value rows) (replicate 256 [])) (sym (front_more ts i table c.loop-table-test.true (get_or_default c.walk_order-table-items.result.now c.loop-table.table-index 0 table c.loop-table-test.true))),
      ap length now ∙ length-set c.loop-table.lists table _ ∙ c.loop-table.invariant.1,
    )
