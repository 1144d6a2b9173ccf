-- The code's list is that of the definitions.
use Rattle.std.proofs.Common.{refl}
use Rattle.md_schema.specs.Schema.{tables}
use Rattle.node_model.specs.KeyKinds.{is_root_table}
use Rattle.node_model.specs.Places.{root_kinds}
use Rattle.node_model.proofs.kinds.root_kinds.Goals as goal

pub returns-clause-kinds : goal.returns-clause-kinds
unfolding root_kinds is_root_table tables
returns-clause-kinds c = refl
