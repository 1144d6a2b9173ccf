-- What the slots in memory say of a key, and how a call that looks at keys follows a walk.
use Rattle.std.specs.Prelude.{◌≡◌, Result, Ok, Err}
use Rattle.slot_store.specs.SlotMap.{SlotMap}
use Rattle.node_model.specs.Places.{slot_at}
use Rattle.node_model.specs.Walk.{Content, part}
use Rattle.node_model.specs.declared.walk.Halt.{Halt}
use Rattle.node_model.specs.declared.key.Key.{Key}
use Rattle.node_model.specs.declared.slot.Slot.{Slot}
use Rattle.node_model.specs.declared.stop.Stop.{Stop}
use Rattle.node_model.specs.declared.stop.Stop.TheVariants as stops

-- what a key holds, by the slots that are filled
abbrev pub part_at : SlotMap Key Slot → (k : Key) → Result (Content k) Halt
part_at slots k = part k (slot_at slots k)

-- a call stops where the walk ends so; or for want of memory, of which a walk knows nothing
abbrev pub Stops : {R : Type 0} → Stop → Result R Halt → Type 0
Stops (stops.Halted halt) said = said ≡ Err halt
Stops stops.NoMemory said = Unit {0}

-- what a call answers is what the walk says
abbrev pub Meets : {R : Type 0} → Result R Stop → Result R Halt → Type 0
Meets (Ok r) said = said ≡ Ok r
Meets (Err e) said = Stops e said
