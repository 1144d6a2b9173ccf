use Rattle.std.proofs.Common.{◌≡◌, refl, rules}
use Rattle.node_model.specs.declared.entry.Why.TheVariants as whys
use Rattle.lazy_core.specs.Steps.{peeked}
use Rattle.graph_query.specs.declared.answering.Peek.TheVariants.{Need, Ready}
use Rattle.lazy_core.proofs.SaidLemmas.{ready_is}
use Rattle.lazy_core.proofs.WantedLemmas.{needed}
use Rattle.shared_module.specs.Adds.{IsForQuery}
use Rattle.shared_module.proofs.AddsLemmas.{fills_wanted}
use Rattle.shared_module.proofs.RoundLemmas.{wanted_so}
use Rattle.shared_module.proofs.shared.SharedModule.ask_round.Goals as goal

pub fill-back-requires-clause-wanted : goal.fill-back-requires-clause-wanted
fill-back-requires-clause-wanted g c =
    let b = c.args.self.now.base in
    let h = c.peek_turn-first.result.0.seen in
    let q = c.args.query.now in
    let said : peeked b h q ≡ Need c.in-Ok-Need.key = search rules in
    wanted_so b h c.args.by c.seen.result (whys.Query q) c.in-Ok-Need.key c.in-Ok.wanted c.seen.ensures c.in-Ok.ensures (needed b h q c.in-Ok-Need.key said)

pub returns-in-Ok-Ready-clause-answer : goal.returns-in-Ok-Ready-clause-answer
returns-in-Ok-Ready-clause-answer g c =
    let b = c.args.self.now.base in
    let h = c.peek_turn-first.result.0.seen in
    let said : peeked b h c.args.query.now ≡ Ready c.in-Ok-Ready.reply = search rules in
    let is = ready_is b h c.args.query.now c.in-Ok-Ready.reply said in
    record { at = c.seen-at.ensures; said = is.0; reached = is.1 }

pub returns-in-Ok-done-clause-adds : goal.returns-in-Ok-done-clause-adds
returns-in-Ok-done-clause-adds g c =
    fills_wanted c.args.by (IsForQuery c.args.query.now) c.args.pass.number c.peek_turn-first.result.0.number c.seen.result (whys.Query c.args.query.now) c.in-Ok-Need.key c.in-Ok.wanted
    c.args.pass.seen c.peek_turn-first.result.0.seen c.fill-back.result.0.seen
    c.requires.by c.peek_turn-first.ensures.pass.1 c.seen.ensures c.in-Ok.ensures refl c.peek_turn-first.ensures.adds c.fill-back.ensures.adds

pub returns-in-Err-done-clause-adds : goal.returns-in-Err-done-clause-adds
returns-in-Err-done-clause-adds g c =
    fills_wanted c.args.by (IsForQuery c.args.query.now) c.args.pass.number c.peek_turn-first.result.0.number c.seen.result (whys.Query c.args.query.now) c.in-Ok-Need.key c.in-Ok.wanted
    c.args.pass.seen c.peek_turn-first.result.0.seen c.fill-back.result.0.seen
    c.requires.by c.peek_turn-first.ensures.pass.1 c.seen.ensures c.in-Ok.ensures refl c.peek_turn-first.ensures.adds c.fill-back.ensures.adds
