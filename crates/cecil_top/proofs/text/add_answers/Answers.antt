use Rattle.std.proofs.Common.{◌∙◌, arith}
use Rattle.cecil_top.proofs.TextLemmas.{answers_next, answers_whole}
use Rattle.cecil_top.proofs.text.add_answers.Goals as goal

pub loop-number-preserved : goal.loop-number-preserved
loop-number-preserved c =
    answers_next c.loop-number.text c.add_answer.new.text c.args.actor c.loop-number.number c.args.commands.now
    c.args.said.now c.index-commands-number.result c.index-said-number.result (omega arith) (omega arith)
    c.index-commands-number.is c.index-said-number.is c.in_ok-add_answer.ensures
    ∙ c.loop-number.invariant

pub returns : goal.returns
returns c =
    answers_whole c.loop-number.text _ c.args.actor c.loop-number.number c.args.commands.now c.args.said.now (omega arith)
    c.loop-number.invariant
