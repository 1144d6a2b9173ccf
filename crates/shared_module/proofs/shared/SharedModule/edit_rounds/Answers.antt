use Rattle.std.proofs.Common.{◌≡◌, ◌∙◌, refl, subst, rules, length, None, Some, Ok, Err}
use Rattle.shared_module.specs.Adds.{IsFillFor, IsForEdit}
use Rattle.shared_module.specs.inner.Turns.{EditRound}
use Rattle.shared_module.proofs.AddsLemmas.{adds_same, fills_then}
use Rattle.shared_module.proofs.RoundLemmas.{ends_after}
use Rattle.shared_module.proofs.shared.SharedModule.edit_rounds.Goals as goal

pub loop-init : goal.loop-init
loop-init g c =
    (c.requires.pass, refl, adds_same c.args.by.caller (IsFillFor c.args.by (length c.args.pass.seen) (IsForEdit c.args.self.now.base c.args.edit.now)) c.args.pass.seen)

pub returns-in-Ok-Some-clause-edited : goal.returns-in-Ok-Some-clause-edited
returns-in-Ok-Some-clause-edited g c =
    let h = c.loop.own.seen in
    let next = c.edit_round-back.result.0.seen in
    let is : c.edit_round-back.result.1 ≡ Ok (Some c.in-Ok-Some.edited) = search rules in
    let round = subst (EditRound c.args.self.now.base c.args.by c.args.edit.now h next) is c.edit_round-back.ensures.edited in
    ends_after c.args.self.now.base c.args.by c.args.edit.now c.args.pass.seen h next (Ok c.in-Ok-Some.edited) c.loop.invariant.2 round

pub returns-in-Err-clause-edited : goal.returns-in-Err-clause-edited
returns-in-Err-clause-edited g c =
    let h = c.loop.own.seen in
    let next = c.edit_round-back.result.0.seen in
    let is : c.edit_round-back.result.1 ≡ Err c.in-Err.field-0 = search rules in
    let round = subst (EditRound c.args.self.now.base c.args.by c.args.edit.now h next) is c.edit_round-back.ensures.edited in
    ends_after c.args.self.now.base c.args.by c.args.edit.now c.args.pass.seen h next (Err c.in-Err.field-0) c.loop.invariant.2 round

pub loop-preserved : goal.loop-preserved
loop-preserved g c =
    let h = c.loop.own.seen in
    let next = c.edit_round-back.result.0.seen in
    let is : c.edit_round-back.result.1 ≡ Ok None = search rules in
    let round = subst (EditRound c.args.self.now.base c.args.by c.args.edit.now h next) is c.edit_round-back.ensures.edited in (
      c.edit_round-back.ensures.pass.0,
      c.edit_round-back.ensures.pass.1 ∙ c.loop.invariant.1,
      fills_then c.args.by (IsForEdit c.args.self.now.base c.args.edit.now) c.args.pass.seen h next c.loop.invariant.2 round,
    )
