use Rattle.std.proofs.Common.{◌≡◌, All, false, take}
use Rattle.cecil_top.proofs.run.any_short.Given as goal

-- none of so many was short
abbrev pub invariant-loop-actor : goal.invariant-loop-actor
invariant-loop-actor l = All (λ a. a.short ≡ false) (take l.actor-index l.actors)
