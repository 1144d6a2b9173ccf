-- A key without a location is one of the map's; one with a location has a number there, and the number a value.
use Rattle.std.proofs.Common.{◌≡◌, ◌∙◌, sym, refl, ap, ℕ, zero, suc, ◌-◌, None, Some, is_some, true≢false, arith}
use Rattle.std.specs.Map.{lookup}
use Rattle.slot_store.specs.SlotMap.{kept_slot}
use Rattle.slot_store.specs.inner.Numbers.{location, stored_number}
use Rattle.slot_store.proofs.LocationLemmas.{KeyLaws}
use Rattle.slot_store.proofs.SlotLemmas.{exchange_changes, other_changes, slot_counted, slot_free, slot_other}
use Rattle.slot_store.proofs.slots.Slots.replace_filled.Goals as goal

pub exchange_other-requires : goal.exchange_other-requires
exchange_other-requires g c =
    let none : location c.self.inside.shape (g.K.HasPlace.place_of c.args.key) ≡ None = cc in
    let is : kept_slot g.K.HasPlace.place_of g.K.PartialEq.eq c.args.self.now c.args.key
    ≡ lookup (g.K.PartialEq.eq c.args.key) c.self.inside.others.entries =
    rw (← c.self.view_is) (slot_other g.K.HasPlace.place_of g.K.PartialEq.eq _ c.args.key none) in
    sym (ap is_some is) ∙ c.requires

pub returns-in_default-clause-old : goal.returns-in_default-clause-old
returns-in_default-clause-old g c =
    let none : location c.self.inside.shape (g.K.HasPlace.place_of c.args.key) ≡ None = cc in
    rw (← c.self.view_is)
    (c.exchange_other.ensures.old ∙ sym (slot_other g.K.HasPlace.place_of g.K.PartialEq.eq _ c.args.key none))

pub returns-in_default-clause-slots : goal.returns-in_default-clause-slots
returns-in_default-clause-slots g c =
    let none : location c.self.inside.shape (g.K.HasPlace.place_of c.args.key) ≡ None = cc in
    let laws : KeyLaws g.K.HasPlace.place_of g.K.PartialEq.eq =
    record { one_place = g.met.K.HasPlace.one_place; one_key = g.met.K.HasPlace.one_key } in
    rw (← c.self.view_is)
    (other_changes g.K.HasPlace.place_of g.K.PartialEq.eq laws _ _ c.args.key refl (Some c.args.value) none refl refl
    c.exchange_other.ensures.updates.0)

pub returns-then-number-eq0-clause-old : goal.returns-then-number-eq0-clause-old
returns-then-number-eq0-clause-old g c =
    let at : ℕ × ℕ = (c.in-Some.table, c.in-Some.at) in
    let there : location c.self.inside.shape (g.K.HasPlace.place_of c.args.key)
    ≡ Some (c.in-Some.table, c.in-Some.at) =
    cc in
    let free : stored_number c.self.inside.numbers.items (c.in-Some.table, c.in-Some.at) ≡ zero =
    omega (arith, c.stored_number-number.ensures, c.if-number-eq0.true) in
    rw (← c.self.view_is) (sym (slot_free g.K.HasPlace.place_of g.K.PartialEq.eq _ c.args.key at there free))

pub returns-then-number-eq0-clause-slots : goal.returns-then-number-eq0-clause-slots
returns-then-number-eq0-clause-slots g c =
    absurd (true≢false (sym c.requires ∙ ap is_some (sym (returns-then-number-eq0-clause-old g c))))

pub returns-clause-old : goal.returns-clause-old
returns-clause-old g c =
    let at : ℕ × ℕ = (c.in-Some.table, c.in-Some.at) in
    let there : location c.self.inside.shape (g.K.HasPlace.place_of c.args.key)
    ≡ Some (c.in-Some.table, c.in-Some.at) =
    cc in
    let i : ℕ = c.stored_number-number.result - 1 in
    let number : stored_number c.self.inside.numbers.items (c.in-Some.table, c.in-Some.at)
    ≡ suc (c.stored_number-number.result - 1) =
    omega (arith, c.stored_number-number.ensures, c.if-number-eq0.false) in
    rw (← c.self.view_is)
    (slot_counted g.K.HasPlace.place_of g.K.PartialEq.eq _ c.args.key at i c.exchange_value.result there number
    c.exchange_value.ensures.old)

pub returns-clause-slots : goal.returns-clause-slots
returns-clause-slots g c =
    let at : ℕ × ℕ = (c.in-Some.table, c.in-Some.at) in
    let there : location c.self.inside.shape (g.K.HasPlace.place_of c.args.key)
    ≡ Some (c.in-Some.table, c.in-Some.at) =
    cc in
    let i : ℕ = c.stored_number-number.result - 1 in
    let number : stored_number c.self.inside.numbers.items (c.in-Some.table, c.in-Some.at)
    ≡ suc (c.stored_number-number.result - 1) =
    omega (arith, c.stored_number-number.ensures, c.if-number-eq0.false) in
    let laws : KeyLaws g.K.HasPlace.place_of g.K.PartialEq.eq =
    record { one_place = g.met.K.HasPlace.one_place; one_key = g.met.K.HasPlace.one_key } in
    rw (← c.self.view_is)
    (exchange_changes g.K.HasPlace.place_of g.K.PartialEq.eq laws _ _ c.args.key refl at i c.args.value there
    c.self.invariant.0 number refl c.exchange_value.ensures.new refl)
