-- The code's list is that of the definitions.
use Rattle.std.proofs.Common.{refl}
use Rattle.md_schema.specs.Schema.{tables}
use Rattle.node_model.specs.KeyKinds.{is_root_table}
use Rattle.write_plan.specs.GraphWalk.{walk_tables}
use Rattle.write_plan.proofs.order.walk_order.Goals as goal

pub returns : goal.returns
unfolding walk_tables is_root_table tables
returns c = refl
