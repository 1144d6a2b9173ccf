use Rattle.std.proofs.Common.{◌≡◌, ◌≤◌, refl, sym, ◌∙◌, ap, subst, Bool, true, false, not, [], ◌∷◌, ◌++◌, Some, length, length-append, arith, if◌then◌else◌}
use Rattle.node_model.specs.Immediate.{read}
use Rattle.node_model.specs.declared.entry.Entry.TheVariants.{Fill}
use Rattle.node_model.specs.inner.KeyEquality.{eq_is_same}
use Rattle.graph_edits.specs.Graphs.{slots_in}
use Rattle.lazy_core.specs.History.{filled}
use Rattle.lazy_core.specs.Legal.{WasWanted}
use Rattle.lazy_core.specs.Slots.{CoreState}
use Rattle.lazy_core.specs.Steps.{history_after, published}
use Rattle.lazy_core.proofs.HistoryLemmas.{fills_few, fills_fill}
use Rattle.lazy_core.proofs.HoldsLemmas.{already, free_is, holds_fill, in_store, stored}
use Rattle.lazy_core.proofs.lazy.Core.publish.Goals as goal

not_false : (x : Bool) → false ≡ not x → x ≡ true
not_false true e = refl
not_false false e = absurd cc

not_true : (x : Bool) → true ≡ not x → x ≡ false
not_true true e = absurd cc
not_true false e = refl

same_spare : (s t : CoreState) → s ≡ t → s.spare ≡ t.spare
same_spare s t e = ap (λ (s : CoreState). s.spare) e

pub put_ready-requires-clause-place : goal.put_ready-requires-clause-place
put_ready-requires-clause-place c =
    let was = subst (λ (v : CoreState). WasWanted v.bytes v.history c.args.wanted.point c.args.wanted.why c.args.wanted.key) (sym c.self.view_is) c.requires.wanted in
    in_store c.self.inside.image.value c.self.inside.history.items c.self.inside.graph c.args.wanted.key c.self.invariant.0 was.known

pub returns-then-not-put_ready-clause-answer : goal.returns-then-not-put_ready-clause-answer
returns-then-not-put_ready-clause-answer c =
    let full : filled c.self.inside.image.value c.self.inside.history.items c.args.wanted.key ≡ true =
    not_false _ (c.if-not-put_ready.ensures.free ∙ free_is c.self.inside.image.value c.self.inside.history.items c.self.inside.graph c.args.wanted.key c.self.invariant.0) in
    (already c.self.inside.image.value c.self.inside.history.items c.args.wanted full).0
    ∙ ap (λ (v : CoreState). published v.bytes v.history c.args.wanted) c.self.view_is

pub returns-then-not-put_ready-clause-history : goal.returns-then-not-put_ready-clause-history
returns-then-not-put_ready-clause-history c =
    let full : filled c.self.inside.image.value c.self.inside.history.items c.args.wanted.key ≡ true =
    not_false _ (c.if-not-put_ready.ensures.free ∙ free_is c.self.inside.image.value c.self.inside.history.items c.self.inside.graph c.args.wanted.key c.self.invariant.0) in
    (already c.self.inside.image.value c.self.inside.history.items c.args.wanted full).1
    ∙ ap (λ (v : CoreState). history_after v.bytes v.history c.args.wanted) c.self.view_is

pub counted-self-inside-requires : goal.counted-self-inside-requires
counted-self-inside-requires c =
    omega (arith, c.self.invariant.2, fills_few c.self.inside.history.items, c.len.ensures, ap length c.push_in_room.ensures.items, length-append c.self.inside.history.items (c.fill_entry-entry.result ∷ []))

pub invariant_of-self-2 : goal.invariant_of-self-2
invariant_of-self-2 c =
    let was = subst (λ (v : CoreState). WasWanted v.bytes v.history c.args.wanted.point c.args.wanted.why c.args.wanted.key) (sym c.self.view_is) c.requires.wanted in
    let free : filled c.self.inside.image.value c.self.inside.history.items c.args.wanted.key ≡ false =
    not_true _ (c.if-not-put_ready.ensures.free ∙ free_is c.self.inside.image.value c.self.inside.history.items c.self.inside.graph c.args.wanted.key c.self.invariant.0) in
    let is = c.requires.slot ∙ ap (λ (v : CoreState). read v.bytes c.args.wanted.key) (sym c.self.view_is) in
    let room : 1 ≤ c.self.inside.spare = omega (arith, c.requires.room, same_spare _ _ c.self.view_is) in
    let entry = Fill c.args.wanted.by c.args.wanted.point c.args.wanted.why c.args.wanted.key in
    rw (c.push_in_room.ensures.items, c.fill_entry-entry.ensures) (
      holds_fill c.self.inside.image.value c.self.inside.history.items c.self.inside.graph _ c.args.wanted.by c.args.wanted.point c.args.wanted.why c.args.wanted.key c.args.slot
          c.self.invariant.0 was free is refl refl c.if-not-put_ready.ensures.shape
          (λ k. c.if-not-put_ready.ensures.slots k ∙ ap (λ x. if x then Some c.args.slot else slots_in c.self.inside.graph k) (eq_is_same c.args.wanted.key k)),
      record {
        slots = omega (arith, c.if-not-put_ready.ensures.spare, c.self.invariant.1.slots, room);
        entries = omega (arith, length-append c.self.inside.history.items (entry ∷ []), c.self.invariant.1.entries, c.push_in_room.ensures.room, room);
      },
      c.counted-self-inside.ensures ∙ omega (arith, c.self.invariant.2, fills_fill c.self.inside.history.items c.args.wanted.by c.args.wanted.point c.args.wanted.why c.args.wanted.key),
    )

pub returns-clause-answer : goal.returns-clause-answer
returns-clause-answer c =
    let free : filled c.self.inside.image.value c.self.inside.history.items c.args.wanted.key ≡ false =
    not_true _ (c.if-not-put_ready.ensures.free ∙ free_is c.self.inside.image.value c.self.inside.history.items c.self.inside.graph c.args.wanted.key c.self.invariant.0) in
    (stored c.self.inside.image.value c.self.inside.history.items c.args.wanted free).0
    ∙ ap (λ (v : CoreState). published v.bytes v.history c.args.wanted) c.self.view_is

pub returns-clause-history : goal.returns-clause-history
returns-clause-history c =
    let free : filled c.self.inside.image.value c.self.inside.history.items c.args.wanted.key ≡ false =
    not_true _ (c.if-not-put_ready.ensures.free ∙ free_is c.self.inside.image.value c.self.inside.history.items c.self.inside.graph c.args.wanted.key c.self.invariant.0) in
    c.push_in_room.ensures.items
    ∙ ap (λ e. c.self.inside.history.items ++ e ∷ []) c.fill_entry-entry.ensures
    ∙ (stored c.self.inside.image.value c.self.inside.history.items c.args.wanted free).1
    ∙ ap (λ (v : CoreState). history_after v.bytes v.history c.args.wanted) c.self.view_is
