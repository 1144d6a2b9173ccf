use Rattle.std.proofs.Common.{◌≡◌, ◌++◌, take}
use Rattle.resolver.proofs.waiting.add_copies.Given as goal

-- the copies so far
abbrev pub invariant-loop-waiting : goal.invariant-loop-waiting
invariant-loop-waiting l = l.all ≡ l.initial.all ++ take l.waiting-index l.more
