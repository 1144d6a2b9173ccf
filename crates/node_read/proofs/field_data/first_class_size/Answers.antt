use Rattle.md_schema.specs.Tables.{class_layout}
use Rattle.node_read.specs.inner.Opened.{streams_of}
use Rattle.node_read.proofs.KeyLemmas.{first_row_there}
use Rattle.node_read.proofs.field_data.first_class_size.Goals as goal

pub class_size_of-requires-clause-row : goal.class_size_of-requires-clause-row
class_size_of-requires-clause-row c = (first_row_there (streams_of c.args.streams.now) class_layout c.args.rows.now c.in-Some.row.now c.requires c.in-Some.ensures.value).0

pub class_size_of-requires-clause-table : goal.class_size_of-requires-clause-table
class_size_of-requires-clause-table c = (first_row_there (streams_of c.args.streams.now) class_layout c.args.rows.now c.in-Some.row.now c.requires c.in-Some.ensures.value).1
