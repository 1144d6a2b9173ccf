use Rattle.std.proofs.Common.{◌≤◌}
use Rattle.std.specs.Prelude.{vec_capacity}
use Rattle.cecil_top.specs.inner.Ends.{AreGiven, AreWithout}
use Rattle.cecil_top.proofs.closing.take_all.Given as goal

-- so many actors gave their passes, and there is room for all
abbrev pub invariant-loop-at : goal.invariant-loop-at
invariant-loop-at l =
    (l.count ≤ vec_capacity l.passes) × AreGiven l.place l.initial.actors l.passes.items l.at
    × AreWithout l.place l.initial.actors l.actors l.at
