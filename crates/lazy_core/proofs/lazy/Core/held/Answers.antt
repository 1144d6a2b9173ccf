use Rattle.std.proofs.Common.{◌≡◌, sym, ◌∙◌, ap, subst, true, IfOk}
use Rattle.std.specs.Prelude.{◌&&◌}
use Rattle.node_model.specs.Immediate.{read}
use Rattle.node_model.specs.KeyKinds.{has_kind}
use Rattle.node_model.specs.Keys.{is_key, is_key_there}
use Rattle.node_model.specs.declared.slot.Slot.{Slot}
use Rattle.lazy_core.specs.History.{graph_after}
use Rattle.lazy_core.specs.Slots.{CoreState}
use Rattle.lazy_core.proofs.HoldsLemmas.{has_slot, no_slot}
use Rattle.lazy_core.proofs.PeekLemmas.{read_held}
use Rattle.lazy_core.proofs.ReplyLemmas.{known_there}
use Rattle.lazy_core.proofs.lazy.Core.held.Goals as goal

pub read_key-requires : goal.read_key-requires
read_key-requires c =
    let there = subst (λ (v : CoreState). (is_key_there (graph_after v.bytes v.history).nodes.rows c.args.key.now && has_kind c.args.key.now) ≡ true) (sym c.self.view_is) c.requires in
    let free = no_slot c.self.inside.image.value c.self.inside.history.items c.args.key.now (c.in-None.ensures ∙ c.self.invariant.0.slot c.args.key.now) in
    subst (λ b. is_key b c.args.key.now ≡ true) (sym c.deref.ensures) (known_there c.self.inside.image.value c.self.inside.history.items c.args.key.now there free)

pub returns-in-Some : goal.returns-in-Some
returns-in-Some c =
    subst (λ (s : Slot). IfOk c.copy.result (λ slot. slot ≡ s))
    ((has_slot c.self.inside.image.value c.self.inside.history.items c.args.key.now c.in-Some.slot.now (c.in-Some.ensures ∙ c.self.invariant.0.slot c.args.key.now)).1
    ∙ ap (λ (v : CoreState). (graph_after v.bytes v.history).held c.args.key.now) c.self.view_is)
    c.copy.ensures

pub returns-in-None : goal.returns-in-None
returns-in-None c =
    let there = subst (λ (v : CoreState). (is_key_there (graph_after v.bytes v.history).nodes.rows c.args.key.now && has_kind c.args.key.now) ≡ true) (sym c.self.view_is) c.requires in
    let free = no_slot c.self.inside.image.value c.self.inside.history.items c.args.key.now (c.in-None.ensures ∙ c.self.invariant.0.slot c.args.key.now) in
    subst (λ (s : Slot). IfOk c.read_key.result (λ slot. slot ≡ s))
    (ap (λ b. read b c.args.key.now) c.deref.ensures
    ∙ read_held c.self.inside.image.value c.self.inside.history.items c.args.key.now c.self.invariant.0.legal there free
    ∙ ap (λ (v : CoreState). (graph_after v.bytes v.history).held c.args.key.now) c.self.view_is)
    c.read_key.ensures
