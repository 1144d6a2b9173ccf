use Rattle.std.proofs.Common.{◌≡◌, ◌∙◌, ap, ◌++◌, length, take, arith}
use Rattle.std.specs.List.{flat_map, enumerate_from}
use Rattle.dump_text.specs.Bodies.{instr_text}
use Rattle.dump_text.proofs.Enumerated.{all_numbered, numbered_more}
use Rattle.dump_text.proofs.body.add_code.Goals as goal

pub loop-number-preserved : goal.loop-number-preserved
loop-number-preserved c =
    numbered_more instr_text c.args.code.now c.loop-number.number c.index-code-number.result c.args.text.now
    c.loop-number.text c.add_instr.new.text (omega arith) c.index-code-number.is c.loop-number.invariant c.in_ok-add_instr.ensures

pub returns : goal.returns
returns c =
    let all : c.loop-number.number ≡ length c.args.code.now = omega arith in
    c.loop-number.invariant
    ∙ ap (λ n. c.args.text.now ++ flat_map instr_text (take n (enumerate_from 0 c.args.code.now))) all
    ∙ ap (λ code. c.args.text.now ++ flat_map instr_text code) (all_numbered c.args.code.now)
