-- The code's table is that of the definitions.
use Rattle.std.proofs.Common.{refl}
use Rattle.md_schema.specs.Schema.{tables}
use Rattle.node_model.specs.KeyKinds.{has_sig, may_link, owns_table}
use Rattle.node_model.specs.Places.{kinds_of}
use Rattle.node_model.proofs.kinds.kinds_by_table.Goals as goal

pub returns : goal.returns
unfolding kinds_of has_sig owns_table may_link tables
returns c = refl
