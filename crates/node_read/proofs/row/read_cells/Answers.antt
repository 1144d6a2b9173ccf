use Rattle.std.proofs.Common.{ℕ, List, ◌<◌, sym, ap, subst, ◌∙◌, arith}
use Rattle.std.proofs.lemmas.List.{length-map}
use Rattle.md_schema.specs.Column.{seen_column, seen_columns}
use Rattle.node_model.specs.declared.cell.Cell.{Cell}
use Rattle.node_read.specs.inner.Cells.{cells_before, cells_from, cells_slot}
use Rattle.node_read.specs.inner.Opened.{streams_of}
use Rattle.node_read.proofs.ColumnLemmas.{column-within}
use Rattle.node_read.proofs.RowLemmas.{before-none, faulty-column, last-column, passed-column, read-column}
use Rattle.node_read.proofs.row.read_cells.Goals as goal

pub number_at-value-requires-clause-column : goal.number_at-value-requires-clause-column
number_at-value-requires-clause-column c =
    column-within c.args.token.table c.loop-number.number (seen_columns c.args.columns.now) c.requires.columns
    (subst (λ (m : ℕ). c.loop-number.number < m) (sym (length-map c.args.columns.now seen_column)) (omega arith))

pub loop-number-init : goal.loop-number-init
loop-number-init c =
    ap (λ (cells : List Cell). cells_before cells (cells_from (streams_of c.args.streams.now) c.args.token 0 (seen_columns c.args.columns.now))) c.new-cells.ensures
    ∙ before-none (cells_from (streams_of c.args.streams.now) c.args.token 0 (seen_columns c.args.columns.now))

pub loop-number-preserved-then-not-is_cell : goal.loop-number-preserved-then-not-is_cell
loop-number-preserved-then-not-is_cell c =
    let s = streams_of c.args.streams.now in
    passed-column s c.args.token c.loop-number.number c.args.columns.now _ c.is_cell.result c.loop-number.cells
    (cells_from s c.args.token 0 (seen_columns c.args.columns.now))
    c.loop-number-test.true c.is_cell.ensures c.if-not-is_cell.true c.loop-number.invariant

pub loop-number-preserved : goal.loop-number-preserved
loop-number-preserved c =
    let s = streams_of c.args.streams.now in
    read-column s c.args.token c.loop-number.number c.args.columns.now _ c.is_cell.result c.loop-number.cells c.push.new.self
    c.in_ok-said.said c.number_at-value.result c.in-Some.cell (cells_from s c.args.token 0 (seen_columns c.args.columns.now))
    c.loop-number-test.true c.is_cell.ensures c.if-not-is_cell.false c.in_ok-said.ensures c.number_at-value.ensures
    c.loop-number.invariant c.in-Some.is c.in_ok-push.ensures.ok

pub returns-in_default : goal.returns-in_default
returns-in_default c =
    let s = streams_of c.args.streams.now in
    c.row_fault.ensures
    ∙ ap (cells_slot c.args.token) (faulty-column s c.args.token c.loop-number.number c.args.columns.now _ c.is_cell.result c.loop-number.cells
    c.in_ok-said.said c.number_at-value.result (cells_from s c.args.token 0 (seen_columns c.args.columns.now))
    c.loop-number-test.true c.is_cell.ensures c.if-not-is_cell.false c.in_ok-said.ensures c.number_at-value.ensures
    c.loop-number.invariant c.in_default.is)

pub returns : goal.returns
returns c =
    let s = streams_of c.args.streams.now in
    ap (cells_slot c.args.token) (last-column s c.args.token c.loop-number.number c.args.columns.now c.loop-number.cells
    (cells_from s c.args.token 0 (seen_columns c.args.columns.now)) c.loop-number-test.false c.loop-number.invariant)
