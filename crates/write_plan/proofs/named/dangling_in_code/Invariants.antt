use Rattle.std.proofs.Common.{◌≡◌, drop}
use Rattle.std.specs.List.{find, flat_map}
use Rattle.il_code.specs.declared.instr.Instr.{Instr}
use Rattle.write_plan.specs.Named.{operand_tokens}
use Rattle.write_plan.specs.Named.{is_dangling}
use Rattle.write_plan.proofs.named.dangling_in_code.Given as goal

abbrev pub invariant-loop-instr : goal.invariant-loop-instr
invariant-loop-instr l =
    find (is_dangling l.met.all) (flat_map (λ (x : Instr). operand_tokens x.operand) (drop l.instr-index l.code)) ≡ find (is_dangling l.met.all) (flat_map (λ (x : Instr). operand_tokens x.operand) l.code)
