-- The key has a location. Where its number is not 0 it has a slot; else the new value's number is written there.
use Rattle.std.proofs.Common.{◌≡◌, sym, refl, ap, ℕ, zero, ◌+◌, ◌<◌, ◌≤◌, length, Some, is_none, arith}
use Rattle.slot_store.specs.inner.Numbers.{location, stored_number}
use Rattle.slot_store.proofs.LocationLemmas.{KeyLaws}
use Rattle.slot_store.proofs.NumberLemmas.{is_within, one_more}
use Rattle.slot_store.proofs.SlotLemmas.{put_changes, same_spare, slot_filled, slot_free}
use Rattle.slot_store.proofs.ValueLemmas.{length_of_more}
use Rattle.slot_store.proofs.slots.Slots.put_ready.Goals as goal

pub set_number-requires-clause-table : goal.set_number-requires-clause-table
set_number-requires-clause-table g c =
    let there : location c.self.inside.shape (g.K.HasPlace.place_of c.args.key)
    ≡ Some (c.in-Some.table, c.in-Some.at) =
    cc in
    (is_within _ _ _ (g.K.HasPlace.place_of c.args.key) (c.in-Some.table, c.in-Some.at) c.self.invariant.0 there).table

pub set_number-requires-clause-at : goal.set_number-requires-clause-at
set_number-requires-clause-at g c =
    let there : location c.self.inside.shape (g.K.HasPlace.place_of c.args.key)
    ≡ Some (c.in-Some.table, c.in-Some.at) =
    cc in
    (is_within _ _ _ (g.K.HasPlace.place_of c.args.key) (c.in-Some.table, c.in-Some.at) c.self.invariant.0 there).index

pub invariant_of-self : goal.invariant_of-self
invariant_of-self g c =
    let there : location c.self.inside.shape (g.K.HasPlace.place_of c.args.key)
    ≡ Some (c.in-Some.table, c.in-Some.at) =
    cc in
    let len : length c.push_in_room.new.values.items ≡ length c.self.inside.values.items + 1 =
    length_of_more c.self.inside.values.items c.push_in_room.new.values.items c.args.value
    c.push_in_room.ensures.items in
    let number : c.len.result ≡ length c.self.inside.values.items + 1 = omega (arith, len, c.len.ensures) in
    let spare : 1 ≤ c.self.inside.spare = omega (arith, c.requires.room, same_spare _ _ c.self.view_is) in
    let numbering = one_more c.self.inside.shape c.self.inside.numbers.items c.set_number.new.numbers.items
    (length c.self.inside.values.items) (length c.push_in_room.new.values.items) c.len.result
    (g.K.HasPlace.place_of c.args.key) (c.in-Some.table, c.in-Some.at) there c.self.invariant.0 number
    c.set_number.ensures len in (
      numbering,
      (
        omega (arith, len, spare, c.self.invariant.1.0, c.push_in_room.ensures.room),
        omega (arith, len, spare, c.self.invariant.1.1),
      ),
    )

pub returns-then-stored_number-ne0-clause-free : goal.returns-then-stored_number-ne0-clause-free
returns-then-stored_number-ne0-clause-free g c =
    let at : ℕ × ℕ = (c.in-Some.table, c.in-Some.at) in
    let there : location c.self.inside.shape (g.K.HasPlace.place_of c.args.key)
    ≡ Some (c.in-Some.table, c.in-Some.at) =
    cc in
    let filled : 0 < stored_number c.self.inside.numbers.items (c.in-Some.table, c.in-Some.at) =
    omega (arith, c.stored_number.ensures, c.if-stored_number-ne0.true) in
    rw (← c.self.view_is)
    (sym (slot_filled g.K.HasPlace.place_of g.K.PartialEq.eq _ c.args.key at there c.self.invariant.0 filled))

pub returns-clause-free : goal.returns-clause-free
returns-clause-free g c =
    let at : ℕ × ℕ = (c.in-Some.table, c.in-Some.at) in
    let there : location c.self.inside.shape (g.K.HasPlace.place_of c.args.key)
    ≡ Some (c.in-Some.table, c.in-Some.at) =
    cc in
    let free : stored_number c.self.inside.numbers.items (c.in-Some.table, c.in-Some.at) ≡ zero =
    omega (arith, c.stored_number.ensures, c.if-stored_number-ne0.false) in
    rw (← c.self.view_is)
    (sym (ap is_none (slot_free g.K.HasPlace.place_of g.K.PartialEq.eq _ c.args.key at there free)))

pub returns-clause-slots : goal.returns-clause-slots
returns-clause-slots g c =
    let at : ℕ × ℕ = (c.in-Some.table, c.in-Some.at) in
    let there : location c.self.inside.shape (g.K.HasPlace.place_of c.args.key)
    ≡ Some (c.in-Some.table, c.in-Some.at) =
    cc in
    let len : length c.push_in_room.new.values.items ≡ length c.self.inside.values.items + 1 =
    length_of_more c.self.inside.values.items c.push_in_room.new.values.items c.args.value
    c.push_in_room.ensures.items in
    let number : c.len.result ≡ length c.self.inside.values.items + 1 = omega (arith, len, c.len.ensures) in
    let laws : KeyLaws g.K.HasPlace.place_of g.K.PartialEq.eq =
    record { one_place = g.met.K.HasPlace.one_place; one_key = g.met.K.HasPlace.one_key } in
    rw (← c.self.view_is)
    (put_changes g.K.HasPlace.place_of g.K.PartialEq.eq laws _ _ c.args.key refl at c.len.result c.args.value there
    c.self.invariant.0 number c.set_number.ensures c.push_in_room.ensures.items refl)
