use Rattle.graph_edits.proofs.ApplyLemmas.{answers_meet, answers_stand}
use Rattle.graph_edits.proofs.applying.apply.Goals as goal

pub returns-clause-meets : goal.returns-clause-meets
returns-clause-meets c =
    let call = c.apply_by_slots in
    answers_meet c.args.graph.now c.args.edit.now call.result call.ensures.answer

pub returns-clause-stands : goal.returns-clause-stands
returns-clause-stands c =
    let call = c.apply_by_slots in
    answers_stand c.args.graph.now call.new.graph c.args.edit.now call.result call.ensures.answer call.ensures.graph
