use Rattle.std.proofs.Common.{◌≡◌, ap, arith, length, zero}
use Rattle.slot_store.specs.SlotMap.{kept_slot}
use Rattle.slot_store.specs.inner.Numbers.{location}
use Rattle.slot_store.proofs.NumberLemmas.{blank_is_numbering}
use Rattle.slot_store.proofs.SlotLemmas.{blank_value}
use Rattle.slot_store.proofs.slots.Slots.new.Goals as goal

pub invariant_of-result : goal.invariant_of-result
invariant_of-result g c =
    let none : length c.new.result.items ≡ zero = ap length c.new.ensures.items in (
      rw (none, c.in_ok-numbers.ensures) (blank_is_numbering c.args.shape.now),
      (omega (arith, none), omega (arith, none)),
    )

pub returns-clause-empty : goal.returns-clause-empty
unfolding kept_slot
returns-clause-empty g c = λ key.
    rw (c.in_ok-numbers.ensures, c.new.ensures.items, c.new-2.ensures.empty)
    (blank_value c.args.shape.now (location c.args.shape.now (g.K.HasPlace.place_of key)))
