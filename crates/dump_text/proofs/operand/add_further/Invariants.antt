use Rattle.std.proofs.Common.{◌≡◌, ◌++◌, take}
use Rattle.std.specs.List.{flat_map}
use Rattle.dump_text.specs.Bodies.{further_target}
use Rattle.dump_text.proofs.operand.add_further.Given as goal

abbrev pub invariant-loop-target : goal.invariant-loop-target
invariant-loop-target l = l.text ≡ l.initial.text ++ flat_map further_target (take l.target-index l.targets)
