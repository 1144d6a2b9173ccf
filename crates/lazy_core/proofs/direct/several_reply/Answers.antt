use Rattle.std.proofs.Common.{◌≡◌, sym, ◌∙◌}
use Rattle.node_model.specs.Graph.{untouched}
use Rattle.node_model.specs.Places.{slot_at}
use Rattle.graph_query.specs.Answered.{query_answer}
use Rattle.graph_query.specs.declared.answering.Peek.TheVariants.{Ready, Need}
use Rattle.lazy_core.proofs.SeveralLemmas.{need_is_key, ready_is}
use Rattle.lazy_core.proofs.direct.several_reply.Goals as goal

pub returns-in-Ready : goal.returns-in-Ready
returns-in-Ready c =
    let told : query_answer (untouched c.args.image.now).nodes (slot_at c.loop.slots) 0 c.args.query.now ≡ Ready c.in-Ready.reply = sym c.in_ok-reply.ensures ∙ c.in-Ready.is in
    ready_is c.args.image.now (slot_at c.loop.slots) c.args.query.now c.in-Ready.reply c.loop.invariant told

pub read_in-requires-clause-key : goal.read_in-requires-clause-key
read_in-requires-clause-key c =
    let told : query_answer (untouched c.args.image.now).nodes (slot_at c.loop.slots) 0 c.args.query.now ≡ Need c.in-Need.key = sym c.in_ok-reply.ensures ∙ c.in-Need.is in
    need_is_key c.args.image.now (slot_at c.loop.slots) c.args.query.now c.in-Need.key c.loop.invariant told
