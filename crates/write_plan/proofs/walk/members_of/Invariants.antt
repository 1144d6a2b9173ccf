use Rattle.std.proofs.Common.{◌≡◌, take}
use Rattle.std.specs.List.{flat_map}
use Rattle.write_plan.specs.Seen.{list_members}
use Rattle.write_plan.specs.inner.Taken.{value_kept}
use Rattle.write_plan.proofs.walk.members_of.Given as goal

abbrev pub invariant-loop-list : goal.invariant-loop-list
invariant-loop-list l = l.members ≡ flat_map (λ k. list_members (value_kept l.kept k)) (take l.list-index l.lists)
