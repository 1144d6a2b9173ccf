-- How a fault is printed: its key, its kind, and the number of the column.
use Rattle.std.specs.Prelude.{ℕ, List, ◌∷◌, ◌++◌, codes}
use Rattle.std.specs.Fmt.{decimal}
use Rattle.node_model.specs.declared.slot.Fault.{Fault}
use Rattle.node_model.specs.declared.slot.FaultKind.{FaultKind}
use Rattle.node_model.specs.declared.slot.FaultKind.TheVariants as kinds
use Rattle.dump_text.specs.KeyTexts.{key_text}

abbrev pub fault_kind_text : FaultKind → List ℕ
fault_kind_text kinds.BadRow = codes "BadRow"
fault_kind_text kinds.BadRange = codes "BadRange"
fault_kind_text kinds.BadSignature = codes "BadSignature"
fault_kind_text kinds.BadBody = codes "BadBody"
fault_kind_text kinds.BadData = codes "BadData"
fault_kind_text kinds.BadResource = codes "BadResource"

-- the key of a fault, its kind, and the number of the column
abbrev pub placed_fault : Fault → List ℕ
placed_fault f = key_text f.key ++ 0x20 ∷ fault_kind_text f.kind ++ 0x20 ∷ decimal f.column

abbrev pub fault_text : Fault → List ℕ
fault_text f = codes "fault " ++ placed_fault f
