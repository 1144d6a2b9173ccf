use Rattle.std.proofs.Common.{◌∙◌}
use Rattle.md_schema.specs.declared.link.Link.TheVariants.{ClassLayout}
use Rattle.node_read.specs.inner.Opened.{streams_of}
use Rattle.node_read.proofs.KeyLemmas.{linked_first_there}
use Rattle.node_read.proofs.field_data.class_size.Goals as goal

pub first_class_size-requires : goal.first_class_size-requires
first_class_size-requires c =
    linked_first_there (streams_of c.args.streams.now) c.args.token ClassLayout c.as_slice.result.now (c.as_slice.ensures ∙ c.in_ok-rows.ensures)
