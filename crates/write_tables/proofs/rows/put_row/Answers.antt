use Rattle.std.proofs.Common.{◌≡◌, ℕ, ◌+◌, List, arith, map, rules, subst, take}
use Rattle.std.specs.List.{flat_map}
use Rattle.std.proofs.lemmas.List.{take_all}
use Rattle.write_tables.specs.declared.table_column.TableColumn.{TableColumn}
use Rattle.write_tables.specs.inner.Gathered.{Gathers}
use Rattle.write_tables.specs.inner.PlacedColumns.{held_contents, held_number}
use Rattle.write_tables.proofs.GatherLemmas.{gathers_begun, gathers_ended, gathers_item, item_more}
use Rattle.write_tables.proofs.rows.put_row.Goals as goal

pub loop-column-init : goal.loop-column-init
loop-column-init c = gathers_begun ℕ c.args.heaps.now c.new-numbers.result c.new-numbers.ensures

pub loop-column-preserved : goal.loop-column-preserved
loop-column-preserved c =
    let plan = c.args.plan.now in
    let columns = c.args.columns.now in
    let i = c.loop-column.column-index in
    let x = c.column-item.result in
    let cells = c.cells_held-cells.result.now in
    let more = item_more TableColumn columns i x (search rules) c.column-item.is in
    gathers_item TableColumn TableColumn ℕ (held_contents plan c.args.row cells)
    (λ later. held_number plan later c.args.place c.args.row cells) (take i columns) (take (i + 1) columns) x (take i columns) (take (i + 1) columns) x
    c.args.heaps.now c.loop-column.heaps c.put_held.new.heaps c.loop-column.numbers c.push.new.self c.in_ok-number.number
    more more c.in_ok-push.ensures.ok c.loop-column.invariant c.in_ok-number.ensures

pub returns : goal.returns
returns c =
    let plan = c.args.plan.now in
    let columns = c.args.columns.now in
    let i = c.loop-column.column-index in
    let cells = c.cells_held-cells.result.now in
    let all : take i columns ≡ columns = take_all i columns (omega arith) in
    subst (λ cs. Gathers (List ℕ) c.args.heaps.now c.loop-column.heaps (flat_map (held_contents plan c.args.row cs) columns)
    (λ later. map (held_number plan later c.args.place c.args.row cs) columns) c.loop-column.numbers) c.cells_held-cells.ensures
    (gathers_ended TableColumn TableColumn ℕ (held_contents plan c.args.row cells)
    (λ later. held_number plan later c.args.place c.args.row cells) (take i columns) columns (take i columns) columns
    c.args.heaps.now c.loop-column.heaps c.loop-column.numbers all all c.loop-column.invariant)
