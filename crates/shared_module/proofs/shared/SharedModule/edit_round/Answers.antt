use Rattle.std.proofs.Common.{◌≡◌, ◌∙◌, refl, sym, subst, rules, Ok}
use Rattle.node_model.specs.declared.entry.Why.TheVariants as whys
use Rattle.lazy_core.specs.declared.wanted.Tried.TheVariants.{Done, Need, Refused}
use Rattle.lazy_core.proofs.TryLemmas.{need_has_last}
use Rattle.lazy_core.proofs.TryWantLemmas.{try_needed}
use Rattle.shared_module.specs.Adds.{IsForEdit}
use Rattle.shared_module.specs.inner.Turns.{EditRound, TryTurn}
use Rattle.shared_module.proofs.AddsLemmas.{fills_wanted}
use Rattle.shared_module.proofs.RoundLemmas.{ends_done, ends_refused, ends_without, wanted_so}
use Rattle.shared_module.proofs.shared.SharedModule.edit_round.Goals as goal

pub wanted_last-wanted-requires : goal.wanted_last-wanted-requires
wanted_last-wanted-requires g c =
    let h = c.try_turn-first.result.0.seen in
    let is : c.try_turn-first.result.1 ≡ Ok (Need c.in-Ok-Need.keys) = search rules in
    let turn = subst (TryTurn c.args.self.now.base c.args.by c.args.edit.now c.args.pass.seen h) is c.try_turn-first.ensures.tried in
    need_has_last c.args.self.now.base h c.args.edit.now c.in-Ok-Need.keys turn.1

pub fill-back-requires-clause-wanted : goal.fill-back-requires-clause-wanted
fill-back-requires-clause-wanted g c =
    let b = c.args.self.now.base in
    let h = c.try_turn-first.result.0.seen in
    let keys = c.in-Ok-Need.keys in
    let w = c.wanted_last-wanted.result in
    let is : c.try_turn-first.result.1 ≡ Ok (Need keys) = search rules in
    let turn = subst (TryTurn b c.args.by c.args.edit.now c.args.pass.seen h) is c.try_turn-first.ensures.tried in
    wanted_so b h c.args.by c.seen.result (whys.Keys keys) w.key w c.seen.ensures c.wanted_last-wanted.ensures.wanted
    (try_needed b h c.args.edit.now keys w.key turn.1 c.wanted_last-wanted.ensures.last)

pub returns-in-Ok-Done-clause-edited : goal.returns-in-Ok-Done-clause-edited
returns-in-Ok-Done-clause-edited g c =
    let b = c.args.self.now.base in
    let h = c.try_turn-first.result.0.seen in
    let is : c.try_turn-first.result.1 ≡ Ok (Done c.in-Ok-Done.made) = search rules in
    let turn = subst (TryTurn b c.args.by c.args.edit.now c.args.pass.seen h) is c.try_turn-first.ensures.tried in
    subst (λ r. EditRound b c.args.by c.args.edit.now c.args.pass.seen r.0.seen r.1) (sym c.answered.ensures)
    (ends_done b c.args.by c.args.edit.now c.args.pass.seen h c.in-Ok-Done.made turn.0 turn.1)

pub returns-in-Ok-Refused-clause-edited : goal.returns-in-Ok-Refused-clause-edited
returns-in-Ok-Refused-clause-edited g c =
    let b = c.args.self.now.base in
    let h = c.try_turn-first.result.0.seen in
    let is : c.try_turn-first.result.1 ≡ Ok (Refused c.in-Ok-Refused.refusal) = search rules in
    let turn = subst (TryTurn b c.args.by c.args.edit.now c.args.pass.seen h) is c.try_turn-first.ensures.tried in
    subst (λ r. EditRound b c.args.by c.args.edit.now c.args.pass.seen r.0.seen r.1) (sym c.answered-in-Ok-Refused.ensures)
    (ends_refused b c.args.by c.args.edit.now c.args.pass.seen h c.in-Ok-Refused.refusal turn.0 turn.1)

pub returns-in-Ok-clause-edited : goal.returns-in-Ok-clause-edited
returns-in-Ok-clause-edited g c =
    let b = c.args.self.now.base in
    let h = c.try_turn-first.result.0.seen in
    let keys = c.in-Ok-Need.keys in
    let w = c.wanted_last-wanted.result in
    let is : c.try_turn-first.result.1 ≡ Ok (Need keys) = search rules in
    let turn = subst (TryTurn b c.args.by c.args.edit.now c.args.pass.seen h) is c.try_turn-first.ensures.tried in
    fills_wanted c.args.by (IsForEdit b c.args.edit.now) c.args.by.caller c.try_turn-first.result.0.number c.seen.result (whys.Keys keys) w.key w
    c.args.pass.seen h c.fill-back.result.0.seen
    refl (c.try_turn-first.ensures.pass.1 ∙ sym c.requires.by) c.seen.ensures c.wanted_last-wanted.ensures.wanted turn.1 turn.0 c.fill-back.ensures.adds

pub returns-in-Err-done-clause-edited : goal.returns-in-Err-done-clause-edited
returns-in-Err-done-clause-edited g c =
    let b = c.args.self.now.base in
    let h = c.try_turn-first.result.0.seen in
    let keys = c.in-Ok-Need.keys in
    let w = c.wanted_last-wanted.result in
    let is : c.try_turn-first.result.1 ≡ Ok (Need keys) = search rules in
    let turn = subst (TryTurn b c.args.by c.args.edit.now c.args.pass.seen h) is c.try_turn-first.ensures.tried in
    ends_without b c.args.by c.args.edit.now c.args.pass.seen c.fill-back.result.0.seen (record {})
    (fills_wanted c.args.by (IsForEdit b c.args.edit.now) c.args.by.caller c.try_turn-first.result.0.number c.seen.result (whys.Keys keys) w.key w
    c.args.pass.seen h c.fill-back.result.0.seen
    refl (c.try_turn-first.ensures.pass.1 ∙ sym c.requires.by) c.seen.ensures c.wanted_last-wanted.ensures.wanted turn.1 turn.0 c.fill-back.ensures.adds)
