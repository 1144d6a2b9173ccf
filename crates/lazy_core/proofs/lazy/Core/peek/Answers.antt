use Rattle.std.proofs.Common.{◌≡◌, ◌∙◌, ap, subst, IfOk}
use Rattle.graph_query.specs.Answered.{query_answer, slots_asked}
use Rattle.graph_query.specs.declared.answering.Peek.{Peek}
use Rattle.lazy_core.specs.History.{graph_after}
use Rattle.lazy_core.proofs.ReplyLemmas.{peeked_over}
use Rattle.lazy_core.proofs.lazy.Core.peek.Goals as goal

pub returns : goal.returns
returns c =
    let s = c.args.self.now in
    let q = c.args.query.now in
    let g = c.asked.result in
    subst (λ (p : Peek). IfOk c.answer.result (λ peek. peek ≡ p))
    (ap (λ n. query_answer n (slots_asked g) g.fills q) c.asked.ensures.nodes
    ∙ ap (λ f. query_answer (graph_after s.bytes s.history).nodes (slots_asked g) f q) c.asked.ensures.fills
    ∙ peeked_over s.bytes s.history q (slots_asked g) c.asked.ensures.slots)
    c.answer.ensures
