-- How a change is made in memory, step by step. No public contract cites these words.
use Rattle.std.specs.Prelude.{◌≡◌, ◌<◌, ◌-◌, ◌^◌, Bool, true, false, not, List, [], ◌∷◌, Option, Some, None, is_some}
use Rattle.std.specs.Prelude.{if◌then◌else◌}
use Rattle.std.specs.List.{list_all}
use Rattle.std.specs.Map.{lookup}
use Rattle.std.specs.Option.{option_or}
use Rattle.slot_store.specs.Shape.{is_in_shape}
use Rattle.slot_store.specs.SlotMap.{SlotMap}
use Rattle.slot_store.specs.declared.place.Shape.{Shape}
use Rattle.node_model.specs.Changes.{begun}
use Rattle.node_model.specs.Fresh.{begins_with, is_key_of}
use Rattle.node_model.specs.Keys.{same_key}
use Rattle.node_model.specs.Nodes.{Nodes, next_row}
use Rattle.node_model.specs.Places.{key_place, slot_at}
use Rattle.node_model.specs.declared.change.Change.{Change}
use Rattle.node_model.specs.declared.change.RowChange.{RowChange}
use Rattle.node_model.specs.declared.change.RowChange.TheVariants.{Stays, Made, Gone}
use Rattle.node_model.specs.declared.edit.OptSig.{OptSig}
use Rattle.node_model.specs.declared.key.Key.{Key}
use Rattle.node_model.specs.declared.slot.Slot.{Slot}
use Rattle.node_model.specs.declared.value.RowValue.{RowValue}
use Rattle.graph_edits.specs.Graphs.{nodes_in, slots_in}
use Rattle.graph_edits.specs.declared.graph.EditGraph.{EditGraph}

-- every key has the slot that it had
abbrev pub SlotsKept : SlotMap Key Slot → SlotMap Key Slot → Type 0
SlotsKept old new = (q : Key) → slot_at new q ≡ slot_at old q

-- a key has this slot, and every other key what it had
abbrev pub WritesSlot : SlotMap Key Slot → SlotMap Key Slot → Key → Slot → Type 0
WritesSlot old new k slot = (q : Key) → slot_at new q ≡ (if same_key q k then Some slot else slot_at old q)

-- by the answer: the key had no slot and has what it begins with, or it has what it had; and so has every other key
pub record BeginsOne (old new : SlotMap Key Slot) (row : RowValue) (sig : OptSig) (k : Key) (is_new : Bool)
    : Type 0 where
  pub free : is_new ≡ true → slot_at old k ≡ None
  pub kept : is_new ≡ false → SlotsKept old new
  pub slots : (q : Key) → slot_at new q
      ≡ option_or (slot_at old q) (if same_key q k then begins_with row sig k else None)

-- what each of these keys of a new row begins with
abbrev pub begun_among : RowValue → OptSig → List Key → Key → Option Slot
begun_among row sig [] q = None
begun_among row sig (k ∷ ks) q =
    option_or (if same_key q k then begins_with row sig k else None) (begun_among row sig ks q)

-- those of the keys that had no slot have what they begin with, and every other key what it had
abbrev pub Begins : SlotMap Key Slot → SlotMap Key Slot → RowValue → OptSig → List Key → Type 0
Begins old new row sig ks = (q : Key) → slot_at new q ≡ option_or (slot_at old q) (begun_among row sig ks q)

-- the keys of a new row have what they begin with, and every other key what it had
abbrev pub RowsBegin : SlotMap Key Slot → SlotMap Key Slot → RowChange → Type 0
RowsBegin old new rows = (q : Key) → slot_at new q ≡ option_or (slot_at old q) (begun rows q)

-- these keys have their new content, and every other key what it had
abbrev pub Rewrites : SlotMap Key Slot → SlotMap Key Slot → List (Key × Slot) → Type 0
Rewrites old new contents = (q : Key) → slot_at new q ≡ option_or (lookup (same_key q) contents) (slot_at old q)

-- each of these keys has a slot
abbrev pub all_filled : (Key → Option Slot) → List (Key × Slot) → Bool
all_filled p contents = list_all (λ (c : Key × Slot). is_some (p c.0)) contents

-- none of these keys has a place in the shape
abbrev pub all_outside : Shape → List Key → Bool
all_outside shape ks = list_all (λ k. not (is_in_shape shape (key_place k))) ks

-- each of these keys is one of the row
abbrev pub all_of_row : RowValue → List Key → Bool
all_of_row row ks = list_all (is_key_of row.token) ks

-- a new row is the next of its table, which has room for it
abbrev pub SoundRows : Nodes → RowChange → Type 0
SoundRows n Stays = Unit {0}
SoundRows n (Made row sig) =
    (row.token ≡ next_row n row.token.table) × (n.rows row.token.table < 2 ^ 24 - 1) × (row.token.table < 64)
SoundRows n (Gone t) = Unit {0}

abbrev pub change_of_parts : List (Key × Slot) → RowChange → Change
change_of_parts contents rows = record { contents = contents; rows = rows }

-- a change that can be made: each key that changes has a slot
pub record CanBeMade (g : EditGraph) (change : Change) : Type 0 where
  pub contents : all_filled (slots_in g) change.contents ≡ true
  pub rows : SoundRows (nodes_in g) change.rows
