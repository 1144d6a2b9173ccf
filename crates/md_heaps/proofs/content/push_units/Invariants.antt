use Rattle.std.proofs.Common.{◌≡◌, ◌++◌, take}
use Rattle.md_heaps.specs.LaidHeaps.{unit_bytes}
use Rattle.md_heaps.proofs.content.push_units.Given as goal

-- the bytes of the units so far are added
abbrev pub invariant-loop-unit : goal.invariant-loop-unit
invariant-loop-unit l = l.bytes ≡ l.initial.bytes ++ unit_bytes (take l.unit-index l.units)
