-- A key that is not placed goes into the map.
use Rattle.std.proofs.Common.{◌≡◌, ◌∙◌, sym, refl, ap, false, None, Some}
use Rattle.slot_store.specs.Shape.{is_in_shape}
use Rattle.slot_store.specs.inner.Numbers.{location}
use Rattle.slot_store.proofs.LocationLemmas.{KeyLaws}
use Rattle.slot_store.proofs.SlotLemmas.{no_location, other_changes, same_shape}
use Rattle.slot_store.proofs.slots.Slots.put_once.Goals as goal

pub returns-clause-slots : goal.returns-clause-slots
returns-clause-slots g c =
    let key = g.K.HasPlace.place_of c.args.key in
    let outside : is_in_shape c.self.inside.shape key ≡ false =
    ap (λ shape. is_in_shape shape key) (same_shape _ _ c.self.view_is) ∙ sym c.is_placed.ensures
    ∙ c.if-is_placed.false in
    let none : location c.self.inside.shape key ≡ None = no_location _ key outside in
    let laws : KeyLaws g.K.HasPlace.place_of g.K.PartialEq.eq =
    record { one_place = g.met.K.HasPlace.one_place; one_key = g.met.K.HasPlace.one_key } in
    rw (← c.self.view_is)
    (other_changes g.K.HasPlace.place_of g.K.PartialEq.eq laws _ _ c.args.key refl (Some c.args.value) none refl refl
    c.in_ok-insert.ensures.updates.0)
