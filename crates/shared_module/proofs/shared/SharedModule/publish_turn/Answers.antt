use Rattle.std.proofs.Common.{◌∙◌, ◌≤◌, sym, ap, subst, length}
use mathlib.Core.List.{IsPrefix}
use Rattle.turn_lock.specs.Views.{own}
use Rattle.lazy_core.specs.History.{entry_caller}
use Rattle.lazy_core.specs.Legal.{WasWanted}
use Rattle.lazy_core.proofs.SaidLemmas.{still_wanted}
use Rattle.shared_module.specs.Adds.{Adds}
use Rattle.shared_module.specs.inner.Turns.{IsFillOf}
use Rattle.shared_module.proofs.AddsLemmas.{grown_begins, grown_made}
use Rattle.shared_module.proofs.TurnLemmas.{adds_filled, fill_of, grows_filled}
use Rattle.shared_module.proofs.shared.SharedModule.publish_turn.Goals as goal

pub fill_wanted-done-requires-clause-wanted : goal.fill_wanted-done-requires-clause-wanted
fill_wanted-done-requires-clause-wanted g c =
    let seen = c.args.pass.seen in
    let w = c.args.wanted in
    let old = c.state_mut.result.now in
    let at = c.state_mut.ensures.value in
    let later = subst (λ x. IsPrefix seen x.history) (sym at) c.enter-held.ensures.later in
    let base = ap (λ x. x.bytes) at ∙ c.enter-held.ensures.base ∙ ap (λ l. l.base) c.self.view_is in
    subst (λ b. WasWanted b old.history w.point w.why w.key) (sym base)
    (still_wanted c.args.self.now.base seen old.history w.point w.why w.key later c.requires.wanted)

pub leave-requires-clause-later : goal.leave-requires-clause-later
leave-requires-clause-later g c =
    let w = c.args.wanted in
    let old = c.state_mut.result.now in
    let new = c.fill_wanted-done.new.core in
    let grows = grows_filled c.fill_wanted-done.result old.bytes old.history new.history w c.fill_wanted-done.ensures.history c.fill_wanted-done.ensures.kept in
    subst (λ h. IsPrefix h new.history) (ap (λ x. x.history) c.state_mut.ensures.value ∙ sym c.enter-held.ensures.seen)
    (grown_begins (fill_of w) old.history new.history grows)

pub leave-requires-clause-own : goal.leave-requires-clause-own
leave-requires-clause-own g c =
    let w = c.args.wanted in
    let old = c.state_mut.result.now in
    let new = c.fill_wanted-done.new.core in
    let grows = grows_filled c.fill_wanted-done.result old.bytes old.history new.history w c.fill_wanted-done.ensures.history c.fill_wanted-done.ensures.kept in
    λ i e l is.
    grown_made (fill_of w) old.history new.history grows c.args.pass.number c.requires.by i e
    (subst (λ h. length h ≤ i) (c.enter-held.ensures.seen ∙ ap (λ x. x.history) (sym c.state_mut.ensures.value)) l) is
    ∙ sym c.enter-held.ensures.pass.1

pub returns-clause-adds : goal.returns-clause-adds
returns-clause-adds g c =
    let k = c.args.pass.number in
    let seen = c.args.pass.seen in
    let w = c.args.wanted in
    let old = c.state_mut.result.now in
    let new = c.fill_wanted-done.new.core in
    let at = c.state_mut.ensures.value in
    let later = subst (λ x. IsPrefix seen x.history) (sym at) c.enter-held.ensures.later in
    let mine = ap (λ x. own entry_caller k x.history) at ∙ c.enter-held.ensures.own in
    let grows = grows_filled c.fill_wanted-done.result old.bytes old.history new.history w c.fill_wanted-done.ensures.history c.fill_wanted-done.ensures.kept in
    subst (λ h. Adds k (IsFillOf w seen) seen h) (sym (ap (λ p. p.seen) c.leave.ensures))
    (adds_filled k seen old.history new.history w later mine c.requires.wanted.early grows)
