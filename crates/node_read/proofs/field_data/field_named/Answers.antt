use Rattle.std.proofs.Common.{ap, ◌∙◌}
use Rattle.md_schema.specs.Tables.{field}
use Rattle.node_model.specs.Data.{named_field}
use Rattle.node_read.specs.inner.Opened.{streams_of}
use Rattle.node_read.proofs.KeyLemmas.{field_there}
use Rattle.node_read.proofs.field_data.field_named.Goals as goal

pub returns-clause-there : goal.returns-clause-there
returns-clause-there c =
    field_there (streams_of c.args.streams.now) field c.args.number c.named_row.result (c.named_row.ensures ∙ ap named_field c.field_cell.ensures)
