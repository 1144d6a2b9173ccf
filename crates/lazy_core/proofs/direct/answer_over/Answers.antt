use Rattle.std.proofs.Common.{◌≡◌, ◌∙◌, ap, subst, replicate, IfOk}
use Rattle.node_model.specs.Nodes.{nodes_of}
use Rattle.node_model.specs.Places.{slot_at}
use Rattle.graph_query.specs.Answered.{query_answer}
use Rattle.graph_query.specs.declared.answering.Peek.{Peek}
use Rattle.lazy_core.proofs.HoldsLemmas.{none_added}
use Rattle.lazy_core.proofs.direct.answer_over.Goals as goal

pub returns : goal.returns
returns c =
    subst (λ (answer : Peek). IfOk c.answer.result (λ a. a ≡ answer))
    (ap (λ n. query_answer n (slot_at c.args.slots.now) 0 c.args.query.now)
    (ap (nodes_of c.row_counts.result (replicate 64 0)) c.new-removed.ensures ∙ none_added c.args.image.now c.row_counts.result c.row_counts.ensures.rows))
    c.answer.ensures
