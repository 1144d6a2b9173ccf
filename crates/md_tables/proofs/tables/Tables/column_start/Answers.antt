-- A row that stands in the stream has its columns there.
use Rattle.std.proofs.Common.{ap, ◌∙◌, arith}
use Rattle.md_schema.specs.Entry.{column_of}
use Rattle.md_schema.specs.Cell.{offset_of, place_of}
use Rattle.md_tables.proofs.CellLemmas.{offset_within, row_within, some_is, table_below}
use Rattle.md_tables.proofs.tables.Tables.column_start.Goals as goal

pub start-requires : goal.start-requires
start-requires c = table_below c.args.stream.now c.args.self.now c.args.table 1 c.requires.opened c.requires.row

pub overflow_add-result : goal.overflow_add-result
overflow_add-result c =
    let row = row_within c.args.stream.now c.args.self.now c.args.table 1 c.requires.opened c.requires.row in
    let found = some_is (column_of c.args.table c.args.column) c.requires.column in
    let inside = offset_within c.args.self.now.counts c.args.table c.args.column found.0 found.1 in
    let offset = c.offset.ensures.offset ∙ ap (λ k. offset_of k c.args.table c.args.column) c.counts.ensures in
    omega (arith, row, c.start.ensures, inside, offset)

pub returns : goal.returns
unfolding place_of
returns c =
    let offset = c.offset.ensures.offset ∙ ap (λ k. offset_of k c.args.table c.args.column) c.counts.ensures in
    omega (arith, c.start.ensures, offset)
