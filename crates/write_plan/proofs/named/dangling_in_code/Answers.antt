use Rattle.std.proofs.Common.{sym, rules}
use Rattle.std.specs.List.{find, flat_map}
use Rattle.il_code.specs.declared.instr.Instr.{Instr}
use Rattle.write_plan.specs.Named.{operand_tokens}
use Rattle.write_plan.specs.Named.{is_dangling}
use Rattle.write_plan.proofs.ScanLemmas.{flat_step, scan_here, scan_next}
use Rattle.write_plan.proofs.named.dangling_in_code.Goals as goal

pub returns-in-Some : goal.returns-in-Some
returns-in-Some c =
    scan_here (λ xs. find (is_dangling c.args.met.now.all) (flat_map (λ (x : Instr). operand_tokens x.operand) xs)) (λ x. find (is_dangling c.args.met.now.all) ((λ (x : Instr). operand_tokens x.operand) x)) (flat_step (is_dangling c.args.met.now.all) (λ (x : Instr). operand_tokens x.operand)) c.args.code.now c.loop-instr.instr-index c.instr-item.result c.in-Some.token (search rules) c.instr-item.is c.loop-instr.invariant (sym c.in-Some.ensures)

pub loop-instr-preserved : goal.loop-instr-preserved
loop-instr-preserved c =
    scan_next (λ xs. find (is_dangling c.args.met.now.all) (flat_map (λ (x : Instr). operand_tokens x.operand) xs)) (λ x. find (is_dangling c.args.met.now.all) ((λ (x : Instr). operand_tokens x.operand) x)) (flat_step (is_dangling c.args.met.now.all) (λ (x : Instr). operand_tokens x.operand)) c.args.code.now c.loop-instr.instr-index c.instr-item.result (search rules) c.instr-item.is c.loop-instr.invariant (sym c.in_default.ensures)
