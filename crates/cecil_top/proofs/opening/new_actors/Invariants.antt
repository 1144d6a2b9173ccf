use Rattle.std.proofs.Common.{◌≡◌, [], drop}
use Rattle.cecil_top.specs.inner.Opens.{AllAreNew}
use Rattle.cecil_top.proofs.opening.new_actors.Given as goal

-- so many lists of commands have an actor
abbrev pub invariant-loop-number : goal.invariant-loop-number
invariant-loop-number l = (l.given ≡ drop l.number l.initial.given) × AllAreNew [] l.initial.given l.actors l.number
