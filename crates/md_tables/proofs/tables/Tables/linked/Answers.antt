-- The rows so far that are linked.
use Rattle.std.proofs.Common.{ℕ, ◌≡◌, ◌-◌, ◌≤◌, ap, ◌∙◌, sym, arith}
use Rattle.std.specs.List.{filter}
use Rattle.md_schema.specs.Cell.{IsRowOf}
use Rattle.md_schema.specs.Link.{link_table_of}
use Rattle.md_schema.specs.LinkedRows.{is_linked, linked_of, rows_to}
use Rattle.md_schema.specs.Runs.{table_row_count}
use Rattle.md_schema.specs.Width.{rows_of}
use Rattle.md_tables.proofs.CellLemmas.{few_rows}
use Rattle.md_tables.proofs.LinksLemmas.{linked-no, linked-test, linked-yes, table_row_count-is, rows_to-none}
use Rattle.md_tables.proofs.tables.Tables.linked.Goals.{then-names+in_ok-push, else-names}
use Rattle.md_tables.proofs.tables.Tables.linked.Goals as goal

-- the rows of the link's table
pub link_places-places-requires-clause-row : goal.link_places-places-requires-clause-row
link_places-places-requires-clause-row c =
    let count = c.rows-count.ensures ∙ ap (rows_of c.args.self.now.counts) c.link_column-table.ensures.table in
    let some : 1 ≤ c.rows-count.result = omega (arith, c.if-count-eq0.false) in
    record { first = omega arith; last = omega (arith, count, some) }

pub overflow_add-rid-end : goal.overflow_add-rid-end
overflow_add-rid-end c =
    let few = few_rows c.args.stream.now c.args.self.now c.link_column-table.result.table c.requires in
    omega (arith, few, c.rows-count.ensures)

pub number-number-requires : goal.number-number-requires
number-number-requires c =
    let count = c.rows-count.ensures ∙ ap (rows_of c.args.self.now.counts) c.link_column-table.ensures.table in
    let row : IsRowOf c.args.self.now (link_table_of c.args.link) c.loop-rid.rid = record { first = omega arith; last = omega (arith, count) } in
    record {
      width = c.link_places-places.ensures.width;
      first = omega arith;
      within = c.link_places-places.ensures.within c.loop-rid.rid row;
    }

pub loop-rid-init : goal.loop-rid-init
loop-rid-init c = record {
  rows = c.new-rows.ensures ∙ sym (rows_to-none (is_linked c.args.stream.now c.args.token c.args.link) c.link_column-table.result.table);
  first = omega arith;
}

pub invariant_of-push : goal.invariant_of-push
invariant_of-push c =
    let few = few_rows c.args.stream.now c.args.self.now c.link_column-table.result.table c.requires in
    omega (arith, few, c.rows-count.ensures)

pub loop-rid-preserved : goal.loop-rid-preserved
loop-rid-preserved c =
    let p = is_linked c.args.stream.now c.args.token c.args.link in
    let table = c.link_column-table.result.table in
    let rid = c.loop-rid.rid in
    let count = c.rows-count.ensures ∙ ap (rows_of c.args.self.now.counts) c.link_column-table.ensures.table in
    let row : IsRowOf c.args.self.now (link_table_of c.args.link) rid = record { first = omega arith; last = omega (arith, count) } in
    let read = c.number-number.ensures ∙ c.link_places-places.ensures.number rid row in
    let tested =
    ap (λ (t : ℕ). p (record { table = t; rid = rid })) c.link_column-table.ensures.table
    ∙ linked-test c.args.stream.now c.args.token c.args.link c.link_kind-kind.result rid c.number-number.result c.link_kind-kind.ensures read
    ∙ sym c.names.ensures in
    record {
      rows = elim c.if-names.branch [
        | then-names+in_ok-push w ↦ linked-yes p table rid c.loop-rid.rows c.if-names.rows c.loop-rid.invariant.first c.loop-rid.invariant.rows (tested ∙ w.if-names.true) (w.rows-is ∙ w.in_ok-push.ensures.ok)
        | else-names w ↦ linked-no p table rid c.loop-rid.rows c.if-names.rows c.loop-rid.invariant.first c.loop-rid.invariant.rows (tested ∙ w.if-names.false) w.rows-is
      ];
      first = omega arith;
    }

-- a table without rows has none that are linked
pub returns-then-count-eq0 : goal.returns-then-count-eq0
unfolding linked_of
returns-then-count-eq0 c =
    let p = is_linked c.args.stream.now c.args.token c.args.link in
    let table = link_table_of c.args.link in
    let counted = c.rows-count.ensures ∙ table_row_count-is c.args.stream.now c.args.self.now c.link_column-table.result.table c.requires ∙ ap (table_row_count c.args.stream.now) c.link_column-table.ensures.table in
    let none : 0 ≡ table_row_count c.args.stream.now table = omega (arith, counted, c.if-count-eq0.true) in
    c.new-rows.ensures ∙ sym (rows_to-none p table) ∙ ap (λ (n : ℕ). filter p (rows_to table n)) none

pub returns : goal.returns
unfolding linked_of
returns c =
    let p = is_linked c.args.stream.now c.args.token c.args.link in
    let table = c.link_column-table.result.table in
    let count = c.rows-count.ensures ∙ table_row_count-is c.args.stream.now c.args.self.now table c.requires in
    let end : c.loop-rid.rid - 1 ≡ table_row_count c.args.stream.now table = omega (arith, count) in
    c.loop-rid.invariant.rows
    ∙ ap (λ (n : ℕ). filter p (rows_to table n)) end
    ∙ ap (λ (t : ℕ). filter p (rows_to t (table_row_count c.args.stream.now t))) c.link_column-table.ensures.table
