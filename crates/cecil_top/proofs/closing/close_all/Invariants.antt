use Rattle.std.proofs.Common.{◌≡◌, drop}
use Rattle.cecil_top.specs.inner.Ends.{AllAreClosed, AllAreSameFrom}
use Rattle.cecil_top.proofs.closing.close_all.Given as goal

-- so many modules are closed
abbrev pub invariant-loop-place : goal.invariant-loop-place
invariant-loop-place l =
    (l.modules ≡ drop l.place l.initial.modules) × AllAreClosed l.initial.modules l.initial.actors l.cores l.place
    × AllAreSameFrom l.place l.initial.actors l.actors
