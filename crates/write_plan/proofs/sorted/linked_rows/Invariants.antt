use Rattle.std.proofs.Common.{◌≡◌, map, take}
use Rattle.write_plan.specs.Written.{link_number}
use Rattle.write_plan.specs.inner.Taken.{value_kept}
use Rattle.write_plan.proofs.sorted.linked_rows.Given as goal

abbrev pub invariant-loop-row : goal.invariant-loop-row
invariant-loop-row l =
    l.linked.items ≡ map (λ t. record { number = link_number (value_kept l.kept) l.lists l.link t; token = t }) (take l.row-index l.rows)
