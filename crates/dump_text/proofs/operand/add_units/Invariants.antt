use Rattle.std.proofs.Common.{◌≡◌, ◌++◌, take}
use Rattle.std.specs.List.{flat_map}
use Rattle.dump_text.specs.Bodies.{unit_text}
use Rattle.dump_text.proofs.operand.add_units.Given as goal

abbrev pub invariant-loop-unit : goal.invariant-loop-unit
invariant-loop-unit l = l.text ≡ l.initial.text ++ flat_map unit_text (take l.unit-index l.units)
