-- A key outside the shape is one of the map's.
use Rattle.std.proofs.Common.{◌≡◌, ◌∙◌, sym, refl, ap, None}
use Rattle.slot_store.specs.Shape.{is_in_shape}
use Rattle.slot_store.specs.inner.Numbers.{location}
use Rattle.slot_store.proofs.LocationLemmas.{KeyLaws}
use Rattle.slot_store.proofs.SlotLemmas.{no_location, other_changes, same_shape, slot_other}
use Rattle.slot_store.proofs.slots.Slots.take.Goals as goal

pub returns-clause-value : goal.returns-clause-value
returns-clause-value g c =
    let key = g.K.HasPlace.place_of c.args.key.now in
    let none : location c.self.inside.shape key ≡ None =
    no_location _ key (ap (λ shape. is_in_shape shape key) (same_shape _ _ c.self.view_is) ∙ c.requires) in
    rw (← c.self.view_is)
    (c.swap_remove.ensures.value ∙ sym (slot_other g.K.HasPlace.place_of g.K.PartialEq.eq _ c.args.key.now none))

pub returns-clause-slots : goal.returns-clause-slots
returns-clause-slots g c =
    let key = g.K.HasPlace.place_of c.args.key.now in
    let none : location c.self.inside.shape key ≡ None =
    no_location _ key (ap (λ shape. is_in_shape shape key) (same_shape _ _ c.self.view_is) ∙ c.requires) in
    let laws : KeyLaws g.K.HasPlace.place_of g.K.PartialEq.eq =
    record { one_place = g.met.K.HasPlace.one_place; one_key = g.met.K.HasPlace.one_key } in
    rw (← c.self.view_is)
    (other_changes g.K.HasPlace.place_of g.K.PartialEq.eq laws _ _ c.args.key.now refl None none refl refl
    c.swap_remove.ensures.updates.0)
