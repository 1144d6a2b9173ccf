-- What is needed may be published, and is needed by none then.
use Rattle.std.proofs.Common.{sym, ◌∙◌, length}
use Rattle.node_model.specs.declared.entry.Why.TheVariants as whys
use Rattle.lazy_core.proofs.TurnLemmas.{filled_is_needed_by_none, filled_next}
use Rattle.lazy_core.proofs.turn.fill_next.Goals as goal

pub fill-requires : goal.fill-requires
fill-requires c =
    let core = c.args.core.now in
    rw c.in_ok-wanted.ensures (c.need_is_wanted.ensures core.bytes core.history c.args.query.now c.in-Need.key (sym c.in_ok-key.ensures ∙ c.in-Need.is))

pub returns-clause-filled : goal.returns-clause-filled
returns-clause-filled c =
    let core = c.args.core.now in
    let was = c.need_is_wanted.ensures core.bytes core.history c.args.query.now c.in-Need.key (sym c.in_ok-key.ensures ∙ c.in-Need.is) in
    filled_next core.bytes core.history c.args.by c.args.query.now c.in-Need.key c.in_ok-wanted.wanted c.fill.new.core.history c.in_ok-wanted.ensures was c.in_ok-fill.ensures.history

pub returns-clause-done : goal.returns-clause-done
returns-clause-done c =
    let core = c.args.core.now in
    let was = c.need_is_wanted.ensures core.bytes core.history c.args.query.now c.in-Need.key (sym c.in_ok-key.ensures ∙ c.in-Need.is) in
    let filled = filled_next core.bytes core.history c.args.by c.args.query.now c.in-Need.key c.in_ok-wanted.wanted c.fill.new.core.history c.in_ok-wanted.ensures was c.in_ok-fill.ensures.history in
    rw (c.in_ok-fill.ensures.image, filled)
    (filled_is_needed_by_none c.need_is_wanted.ensures core.bytes core.history c.args.by (length core.history) (whys.Query c.args.query.now) c.in-Need.key)
