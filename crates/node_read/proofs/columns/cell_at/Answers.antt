use Rattle.node_read.proofs.ListLemmas.{row_of}
use Rattle.node_read.proofs.columns.cell_at.Goals as goal

pub cell-requires-clause-row : goal.cell-requires-clause-row
cell-requires-clause-row c =
    row_of c.args.streams.now.tables.now c.args.streams.now.head.now c.args.table c.args.rid c.args.streams.now.opened c.requires.first c.requires.last
