use Rattle.std.proofs.Common.{◌≡◌, ◌∙◌, ◌≤◌, sym, ap, subst, length}
use mathlib.Core.List.{IsPrefix}
use Rattle.turn_lock.specs.Views.{own}
use Rattle.lazy_core.specs.History.{entry_caller}
use Rattle.shared_module.specs.inner.Turns.{TryTurn}
use Rattle.shared_module.proofs.AddsLemmas.{grown_begins, grown_made}
use Rattle.shared_module.proofs.TurnLemmas.{edit_of, grows_tried, try_turned}
use Rattle.shared_module.proofs.shared.SharedModule.try_turn.Goals as goal

pub leave-requires-clause-later : goal.leave-requires-clause-later
leave-requires-clause-later g c =
    let old = c.state_mut.result.now in
    let new = c.try_edit-said.new.self in
    let grows = grows_tried c.try_edit-said.result old.history new.history c.args.by c.args.edit.now c.try_edit-said.ensures.history c.try_edit-said.ensures.kept in
    subst (λ h. IsPrefix h new.history) (ap (λ x. x.history) c.state_mut.ensures.value ∙ sym c.enter-held.ensures.seen)
    (grown_begins (edit_of c.args.by c.args.edit.now) old.history new.history grows)

pub leave-requires-clause-own : goal.leave-requires-clause-own
leave-requires-clause-own g c =
    let old = c.state_mut.result.now in
    let new = c.try_edit-said.new.self in
    let grows = grows_tried c.try_edit-said.result old.history new.history c.args.by c.args.edit.now c.try_edit-said.ensures.history c.try_edit-said.ensures.kept in
    λ i e l is.
    grown_made (edit_of c.args.by c.args.edit.now) old.history new.history grows c.args.pass.number c.requires.by i e
    (subst (λ h. length h ≤ i) (c.enter-held.ensures.seen ∙ ap (λ x. x.history) (sym c.state_mut.ensures.value)) l) is
    ∙ sym c.enter-held.ensures.pass.1

pub returns-clause-tried : goal.returns-clause-tried
returns-clause-tried g c =
    let seen = c.args.pass.seen in
    let old = c.state_mut.result.now in
    let new = c.try_edit-said.new.self in
    let at = c.state_mut.ensures.value in
    let later = subst (λ x. IsPrefix seen x.history) (sym at) c.enter-held.ensures.later in
    let mine = subst (λ k. own entry_caller k old.history ≡ own entry_caller k seen) (sym c.requires.by) (ap (λ x. own entry_caller c.args.pass.number x.history) at ∙ c.enter-held.ensures.own) in
    let base = ap (λ x. x.bytes) at ∙ c.enter-held.ensures.base ∙ ap (λ l. l.base) c.self.view_is in
    subst (λ b. TryTurn b c.args.by c.args.edit.now seen c.leave.result.seen c.try_edit-said.result) base
    (subst (λ h. TryTurn old.bytes c.args.by c.args.edit.now seen h c.try_edit-said.result) (sym (ap (λ p. p.seen) c.leave.ensures))
    (try_turned old.bytes c.args.by c.args.edit.now seen old.history later mine c.try_edit-said.result new.history
    c.try_edit-said.ensures.answer c.try_edit-said.ensures.history c.try_edit-said.ensures.kept))
