use Rattle.std.proofs.Common.{sym, ap, subst}
use Rattle.shared_module.specs.inner.Turns.{AddsNothing}
use Rattle.shared_module.proofs.AddsLemmas.{adds_none}
use Rattle.shared_module.proofs.shared.SharedModule.peek_turn.Goals as goal

pub returns-clause-adds : goal.returns-clause-adds
returns-clause-adds g c =
    subst (λ h. AddsNothing c.args.pass.number c.args.pass.seen h) (sym (ap (λ p. p.seen) c.leave.ensures))
    (adds_none c.args.pass.number (λ t e. ⊥) c.args.pass.seen c.enter-held.result.state.history c.enter-held.ensures.later c.enter-held.ensures.own)
