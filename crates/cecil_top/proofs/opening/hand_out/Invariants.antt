use Rattle.std.proofs.Common.{◌≡◌, drop}
use Rattle.cecil_top.specs.inner.Opens.{AreHandedOut}
use Rattle.cecil_top.proofs.opening.hand_out.Given as goal

-- so many actors have their pass
abbrev pub invariant-loop-at : goal.invariant-loop-at
invariant-loop-at l = (l.passes ≡ drop l.at l.initial.passes) × AreHandedOut l.initial.passes l.initial.actors l.actors l.at
