use Rattle.std.proofs.Common.{◌∙◌, refl, length}
use Rattle.shared_module.specs.Adds.{IsFillFor, IsForQuery}
use Rattle.shared_module.proofs.AddsLemmas.{adds_same, fills_then}
use Rattle.shared_module.proofs.shared.SharedModule.ask_rounds.Goals as goal

pub loop-init : goal.loop-init
loop-init g c =
    (c.requires.pass, refl, adds_same c.args.by.caller (IsFillFor c.args.by (length c.args.pass.seen) (IsForQuery c.args.query.now)) c.args.pass.seen)

pub returns-in-Ok-Some-clause-adds : goal.returns-in-Ok-Some-clause-adds
returns-in-Ok-Some-clause-adds g c =
    fills_then c.args.by (IsForQuery c.args.query.now) c.args.pass.seen c.loop.own.seen c.ask_round-back.result.0.seen c.loop.invariant.2 c.ask_round-back.ensures.adds

pub returns-in-Err-clause-adds : goal.returns-in-Err-clause-adds
returns-in-Err-clause-adds g c =
    fills_then c.args.by (IsForQuery c.args.query.now) c.args.pass.seen c.loop.own.seen c.ask_round-back.result.0.seen c.loop.invariant.2 c.ask_round-back.ensures.adds

pub loop-preserved : goal.loop-preserved
loop-preserved g c = (
  c.ask_round-back.ensures.pass.0,
  c.ask_round-back.ensures.pass.1 ∙ c.loop.invariant.1,
  fills_then c.args.by (IsForQuery c.args.query.now) c.args.pass.seen c.loop.own.seen c.ask_round-back.result.0.seen c.loop.invariant.2 c.ask_round-back.ensures.adds,
)
