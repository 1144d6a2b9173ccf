use Rattle.std.proofs.Common.{◌≡◌, ◌++◌, take, false}
use Rattle.std.specs.List.{flat_map}
use Rattle.il_code.specs.CodeBytes.{target_bytes}
use Rattle.il_code.specs.CodePlaces.{instr_place}
use Rattle.il_write.proofs.write_operand.write_targets.Given as goal

abbrev pub invariant-loop-target : goal.invariant-loop-target
invariant-loop-target l = l.out ≡ l.initial.out ++ flat_map (λ t. target_bytes false l.after (instr_place l.places t)) (take l.target-index l.targets)
