use Rattle.std.proofs.Common.{◌≡◌, map, take}
use Rattle.std.specs.List.{filter}
use Rattle.md_schema.specs.declared.link.Link.TheVariants.{Nested}
use Rattle.node_model.specs.KeyKinds.{has_kind}
use Rattle.node_model.specs.declared.key.Key.TheVariants.{Linked}
use Rattle.write_plan.proofs.order.nested_lists.Given as goal

abbrev pub invariant-loop-row : goal.invariant-loop-row
invariant-loop-row l = l.keys ≡ filter has_kind (map (λ t. Linked t Nested) (take l.row-index l.rows))
