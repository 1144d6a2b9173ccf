-- The rows so far are those of the table.
use Rattle.std.proofs.Common.{ℕ, ◌≡◌, ◌-◌, ◌≤◌, List, IfOk, ap, subst, ◌∙◌, arith}
use Rattle.md_schema.specs.Cell.{IsRowOf}
use Rattle.md_schema.specs.Link.{link_table_of}
use Rattle.md_schema.specs.Runs.{table_row_count}
use Rattle.md_schema.specs.Width.{rows_of}
use Rattle.md_tables.proofs.CellLemmas.{few_rows}
use Rattle.md_tables.proofs.IndexLemmas.{link_rows-all, link_rows-more}
use Rattle.md_tables.proofs.LinksLemmas.{table_row_count-is}
use Rattle.md_tables.specs.LinkIndex.{rids_at}
use Rattle.md_tables.specs.declared.link_row.LinkRow.{LinkRow}
use Rattle.md_tables.proofs.link_index.link_list.Goals as goal

-- the rows of the link's table
pub link_places-places-requires-clause-row : goal.link_places-places-requires-clause-row
link_places-places-requires-clause-row c =
    let count = c.rows-count.ensures ∙ ap (rows_of c.args.tables.now.counts) c.link_column.ensures.table in
    let some : 1 ≤ c.rows-count.result = omega (arith, c.if-count-eq0.false) in
    record { first = omega arith; last = omega (arith, count, some) }

pub overflow_add-rid-end : goal.overflow_add-rid-end
overflow_add-rid-end c =
    let few = few_rows c.args.stream.now c.args.tables.now c.link_column.result.table c.requires in
    omega (arith, few, c.rows-count.ensures)

pub number-number-requires : goal.number-number-requires
number-number-requires c =
    let count = c.rows-count.ensures ∙ ap (rows_of c.args.tables.now.counts) c.link_column.ensures.table in
    let row : IsRowOf c.args.tables.now (link_table_of c.args.link) c.loop-rid.rid = record { first = omega arith; last = omega (arith, count) } in
    record {
      width = c.link_places-places.ensures.width;
      first = omega arith;
      within = c.link_places-places.ensures.within c.loop-rid.rid row;
    }

pub loop-rid-preserved : goal.loop-rid-preserved
loop-rid-preserved c =
    let count = c.rows-count.ensures ∙ ap (rows_of c.args.tables.now.counts) c.link_column.ensures.table in
    let row : IsRowOf c.args.tables.now (link_table_of c.args.link) c.loop-rid.rid = record { first = omega arith; last = omega (arith, count) } in
    let number = c.number-number.ensures ∙ c.link_places-places.ensures.number c.loop-rid.rid row in
    record {
      rows = link_rows-more c.args.stream.now c.args.link c.loop-rid.rid c.number-number.result c.loop-rid.rows.items c.push.new.self.items c.loop-rid.invariant.first c.loop-rid.invariant.rows number c.in_ok-push.ensures.items;
      first = omega arith;
    }

-- a table without rows has none to list
pub returns-then-count-eq0 : goal.returns-then-count-eq0
returns-then-count-eq0 c =
    let table = c.link_column.ensures.table in
    let counted = c.rows-count.ensures ∙ table_row_count-is c.args.stream.now c.args.tables.now c.link_column.result.table c.requires ∙ ap (table_row_count c.args.stream.now) table in
    let none : 0 ≡ table_row_count c.args.stream.now (link_table_of c.args.link) = omega (arith, counted, c.if-count-eq0.true) in
    let all = c.new.ensures.items ∙ link_rows-all c.args.stream.now c.args.link 0 none in
    subst (λ (rows : List LinkRow). IfOk c.from_rows.result (λ list. (number : ℕ) → rids_at list number ≡ rids_at rows number)) all c.from_rows.ensures

pub returns : goal.returns
returns c =
    let table = c.link_column.ensures.table in
    let counted = c.rows-count.ensures ∙ table_row_count-is c.args.stream.now c.args.tables.now c.link_column.result.table c.requires ∙ ap (table_row_count c.args.stream.now) table in
    let end : c.loop-rid.rid - 1 ≡ table_row_count c.args.stream.now (link_table_of c.args.link) = omega (arith, counted) in
    let all = c.loop-rid.invariant.rows ∙ link_rows-all c.args.stream.now c.args.link (c.loop-rid.rid - 1) end in
    subst (λ (rows : List LinkRow). IfOk c.from_rows-2.result (λ list. (number : ℕ) → rids_at list number ≡ rids_at rows number)) all c.from_rows-2.ensures
