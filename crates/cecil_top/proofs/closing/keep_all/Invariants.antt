use Rattle.std.proofs.Common.{◌≡◌, drop, map, take}
use Rattle.cecil_top.specs.inner.Ends.{record_of}
use Rattle.cecil_top.proofs.closing.keep_all.Given as goal

-- what is kept of so many actors
abbrev pub invariant-loop-at : goal.invariant-loop-at
invariant-loop-at l =
    (l.actors ≡ drop l._at l.initial.actors) × (l.records ≡ map record_of (take l._at l.initial.actors))
