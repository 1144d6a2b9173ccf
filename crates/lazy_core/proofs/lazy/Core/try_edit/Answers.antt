use Rattle.std.proofs.Common.{◌≡◌, sym, ◌∙◌, ap, List, [], ◌∷◌, ◌++◌, arith}
use Rattle.std.proofs.lemmas.Grind.{common_steps}
use Rattle.node_model.specs.declared.entry.Entry.{Entry}
use Rattle.node_model.specs.declared.entry.Entry.TheVariants.{Edit}
use Rattle.lazy_core.specs.Slots.{CoreState}
use Rattle.lazy_core.specs.Steps.{tried}
use Rattle.lazy_core.proofs.ChangeLemmas.{is_done}
use Rattle.lazy_core.proofs.EditedLemmas.{holds_done, holds_undone}
use Rattle.lazy_core.proofs.HistoryLemmas.{fills_edit}
use Rattle.lazy_core.proofs.TryLemmas.{tried_of, try_is}
use Rattle.lazy_core.proofs.lazy.Core.try_edit.Goals as goal

pub invariant_of-self-in-Ok-Done : goal.invariant_of-self-in-Ok-Done
invariant_of-self-in-Ok-Done c =
    let s = c.self.inside in
    let items : c.push.new.self.items ≡ s.history.items ++ Edit c.args.by (c.args.edit.now ∷ []) ∷ [] =
    ◌∙◌ {A = List Entry} c.in_ok-push.ensures.items (ap (λ e. s.history.items ++ e ∷ []) c.in_ok-edit_entry.ensures) in
    let done = sym c.in-Ok-Done.ensures.answer ∙ c.in-Ok-Done.field-0-is in
    rw items (
      holds_done s.image.value s.history.items s.graph c.apply.new.graph c.args.by c.args.edit.now c.in-Ok-Done.made c.self.invariant.0 done c.in-Ok-Done.ensures.graph,
      record { slots = omega arith; entries = grind (arith, common_steps) },
      c.self.invariant.2 ∙ sym (fills_edit s.history.items c.args.by (c.args.edit.now ∷ [])),
    )

pub invariant_of-self-in-Ok-Refused : goal.invariant_of-self-in-Ok-Refused
invariant_of-self-in-Ok-Refused c =
    let s = c.self.inside in
    let undone = ap is_done (sym c.in-Ok-Refused.ensures.answer ∙ c.in-Ok-Refused.field-0-is) in
    let back : c.pop.new.self.items ≡ s.history.items = grind (arith, common_steps) in
    rw back (
      holds_undone s.image.value s.history.items s.graph c.apply.new.graph c.args.edit.now c.self.invariant.0 undone c.in-Ok-Refused.ensures.graph,
      record { slots = omega arith; entries = grind (arith, common_steps) },
      c.self.invariant.2,
    )

pub invariant_of-self-in-Ok-Need : goal.invariant_of-self-in-Ok-Need
invariant_of-self-in-Ok-Need c =
    let s = c.self.inside in
    let undone = ap is_done (sym c.in-Ok-Need.ensures.answer ∙ c.in-Ok-Need.field-0-is) in
    let back : c.pop-in-Ok-Need.new.self.items ≡ s.history.items = grind (arith, common_steps) in
    rw back (
      holds_undone s.image.value s.history.items s.graph c.apply.new.graph c.args.edit.now c.self.invariant.0 undone c.in-Ok-Need.ensures.graph,
      record { slots = omega arith; entries = grind (arith, common_steps) },
      c.self.invariant.2,
    )

pub returns-in-Ok-Done-clause-answer : goal.returns-in-Ok-Done-clause-answer
returns-in-Ok-Done-clause-answer c =
    let s = c.self.inside in
    ap tried_of (sym c.in-Ok-Done.field-0-is ∙ c.in-Ok-Done.ensures.answer) ∙ try_is s.image.value s.history.items s.graph c.args.edit.now c.self.invariant.0
    ∙ ap (λ (v : CoreState). tried v.bytes v.history c.args.edit.now) c.self.view_is

pub returns-in-Ok-Refused-clause-answer : goal.returns-in-Ok-Refused-clause-answer
returns-in-Ok-Refused-clause-answer c =
    let s = c.self.inside in
    ap tried_of (sym c.in-Ok-Refused.field-0-is ∙ c.in-Ok-Refused.ensures.answer) ∙ try_is s.image.value s.history.items s.graph c.args.edit.now c.self.invariant.0
    ∙ ap (λ (v : CoreState). tried v.bytes v.history c.args.edit.now) c.self.view_is

pub returns-in-Ok-Need-clause-answer : goal.returns-in-Ok-Need-clause-answer
returns-in-Ok-Need-clause-answer c =
    let s = c.self.inside in
    ap tried_of (sym c.in-Ok-Need.field-0-is ∙ c.in-Ok-Need.ensures.answer) ∙ try_is s.image.value s.history.items s.graph c.args.edit.now c.self.invariant.0
    ∙ ap (λ (v : CoreState). tried v.bytes v.history c.args.edit.now) c.self.view_is
