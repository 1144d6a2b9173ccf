use Rattle.std.proofs.Common.{◌≡◌, map, take}
use Rattle.std.specs.List.{filter}
use Rattle.node_model.specs.KeyKinds.{has_kind}
use Rattle.node_model.specs.RowLists.{list_key}
use Rattle.write_plan.proofs.order.owner_keys.Given as goal

abbrev pub invariant-loop-owner : goal.invariant-loop-owner
invariant-loop-owner l = l.keys ≡ filter has_kind (map (λ owner. list_key owner l.table) (take l.owner-index l.rows))
