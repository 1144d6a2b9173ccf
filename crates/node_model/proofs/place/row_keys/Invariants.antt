use Rattle.std.proofs.Common.{◌≡◌, map, take}
use Rattle.node_model.specs.Places.{key_of_kind}
use Rattle.node_model.proofs.place.row_keys.Given as goal

-- the keys so far
abbrev pub invariant-loop-kind : goal.invariant-loop-kind
invariant-loop-kind l = l.keys ≡ map (key_of_kind l.token) (take l.kind-index l.kinds)
