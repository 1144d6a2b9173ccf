use Rattle.std.proofs.Common.{◌≡◌, take}
use Rattle.write_plan.proofs.numbered.places_of.Given as goal

abbrev pub invariant-loop-row : goal.invariant-loop-row
invariant-loop-row l = l.places.keys ≡ take l.row-index l.rows
