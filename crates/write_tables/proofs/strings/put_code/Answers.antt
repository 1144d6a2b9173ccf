use Rattle.std.proofs.Common.{ℕ, List, ◌∙◌, ◌+◌, ◌++◌, ap, arith, rules, subst, take}
use Rattle.std.proofs.lemmas.List.{take_all}
use Rattle.il_code.specs.declared.instr.Instr.{Instr}
use Rattle.write_tables.specs.UserStrings.{code_strings, operand_units}
use Rattle.write_tables.proofs.GatherLemmas.{GathersStrings, flat_more, gathers_begun, strings_more}
use Rattle.write_tables.proofs.strings.put_code.Goals as goal

pub loop-instr-init : goal.loop-instr-init
loop-instr-init c = gathers_begun ℕ c.args.heaps.now c.new-tokens.result c.new-tokens.ensures

pub loop-instr-preserved : goal.loop-instr-preserved
loop-instr-preserved c =
    let code = c.args.code.now in
    let i = c.loop-instr.instr-index in
    let x = c.instr-item.result in
    strings_more c.args.heaps.now c.loop-instr.heaps c.put_operand.new.heaps (code_strings (take i code)) (operand_units x.operand) (code_strings (take (i + 1) code))
    c.loop-instr.tokens c.in_ok-more.more c.extend.new.self
    (flat_more Instr (List ℕ) (λ (y : Instr). operand_units y.operand) code i x (search rules) c.instr-item.is)
    (c.in_ok-extend.ensures.ok ∙ ap (λ back. c.loop-instr.tokens ++ back) c.as_slice.ensures) c.loop-instr.invariant c.in_ok-more.ensures

pub returns : goal.returns
returns c =
    subst (λ (code : List Instr). GathersStrings c.args.heaps.now c.loop-instr.heaps (code_strings code) c.loop-instr.tokens)
    (take_all c.loop-instr.instr-index c.args.code.now (omega arith)) c.loop-instr.invariant
