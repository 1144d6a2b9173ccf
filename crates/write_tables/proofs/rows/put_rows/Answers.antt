use Rattle.std.proofs.Common.{◌∙◌, ℕ, ◌+◌, List, ap, arith, length, rules, subst, take}
use Rattle.std.specs.List.{enumerate_from}
use Rattle.std.proofs.lemmas.List.{length_push, take_all}
use Rattle.std.proofs.lemmas.List.FromFn.{length-enumerate_from}
use Rattle.cil_base.specs.Token.{Token}
use Rattle.write_tables.specs.inner.Gathered.{Gathers}
use Rattle.write_tables.specs.inner.PlacedColumns.{held_numbers, held_row}
use Rattle.write_tables.proofs.ColumnLemmas.{numbered_more}
use Rattle.write_tables.proofs.GatherLemmas.{gathers_begun, gathers_ended, gathers_item, item_more}
use Rattle.write_tables.proofs.rows.put_rows.Goals as goal

pub loop-row-init : goal.loop-row-init
loop-row-init c = record {
  gathered = gathers_begun (List ℕ) c.args.heaps.now c.new-all.result c.new-all.ensures;
  count = ap length c.new-all.ensures;
}

pub loop-row-preserved : goal.loop-row-preserved
loop-row-preserved c =
    let plan = c.args.plan.now in
    let columns = c.args.columns.now in
    let rows = c.args.rows.now in
    let i = c.loop-row.row-index in
    let x = c.row-item.result in
    let said = subst (λ (p : ℕ). Gathers (List ℕ) c.loop-row.heaps c.put_row.new.heaps (held_row plan columns x)
    (λ later. held_numbers plan later columns (p, x)) c.in_ok-numbers.numbers) (c.len-place.ensures ∙ c.loop-row.invariant.count) c.in_ok-numbers.ensures in
    record {
      gathered =
          gathers_item Token (ℕ × Token) (List ℕ) (held_row plan columns) (λ later. held_numbers plan later columns)
          (take i rows) (take (i + 1) rows) x (take i (enumerate_from 0 rows)) (take (i + 1) (enumerate_from 0 rows)) (i, x)
          c.args.heaps.now c.loop-row.heaps c.put_row.new.heaps c.loop-row.all c.push.new.self c.in_ok-numbers.numbers
          (item_more Token rows i x (search rules) c.row-item.is) (numbered_more Token rows i x (search rules) c.row-item.is)
          c.in_ok-push.ensures.ok c.loop-row.invariant.gathered said;
      count =
          ap length c.in_ok-push.ensures.ok ∙ length_push c.loop-row.all c.in_ok-numbers.numbers ∙ ap (λ n. n + 1) c.loop-row.invariant.count;
    }

pub returns : goal.returns
returns c =
    let plan = c.args.plan.now in
    let rows = c.args.rows.now in
    let i = c.loop-row.row-index in
    gathers_ended Token (ℕ × Token) (List ℕ) (held_row plan c.args.columns.now) (λ later. held_numbers plan later c.args.columns.now)
    (take i rows) rows (take i (enumerate_from 0 rows)) (enumerate_from 0 rows) c.args.heaps.now c.loop-row.heaps c.loop-row.all
    (take_all i rows (omega arith)) (take_all i (enumerate_from 0 rows) (omega (arith, length-enumerate_from 0 rows))) c.loop-row.invariant.gathered
