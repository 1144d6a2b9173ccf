use Rattle.std.proofs.Common.{◌≡◌, map, take}
use Rattle.write_plan.specs.Renamed.{instr_renamed}
use Rattle.write_plan.specs.Written.{new_token}
use Rattle.write_plan.proofs.plan.Plan.renamed_code.Given as goal

abbrev pub invariant-loop-instr : goal.invariant-loop-instr
invariant-loop-instr l = l.new ≡ map (instr_renamed (new_token l.self.lists)) (take l.instr-index l.code)
