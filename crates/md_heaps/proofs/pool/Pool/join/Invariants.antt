use Rattle.std.proofs.Common.{◌≡◌, map}
use Rattle.std.specs.Map.Iter.{deref}
use Rattle.md_heaps.specs.Pools.{joined_entries}
use Rattle.md_heaps.proofs.pool.Pool.join.Given as goal

-- the entries so far are joined
abbrev pub invariant-loop-entry : goal.invariant-loop-entry
invariant-loop-entry l = l.bytes ≡ joined_entries (map deref l.yielded)
