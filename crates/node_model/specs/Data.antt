-- The data of a field: ECMA-335 II.22.18, as many bytes as its type has.
use Rattle.std.specs.Prelude.{ℕ, ◌==◌, Bool, List, [], ◌∷◌, Option, Some, None, codes, if◌then◌else◌}
use Rattle.std.specs.List.{list_any}
use Rattle.cil_base.specs.Heaps.{first_bytes}
use Rattle.cil_base.specs.Steps.{◌>>=◌}
use Rattle.cil_base.specs.Token.{Token}
use Rattle.md_schema.specs.LinkedRows.{linked_of}
use Rattle.md_schema.specs.Reference.{index_of}
use Rattle.md_schema.specs.Tables.{field, type_def}
use Rattle.md_schema.specs.declared.link.Link.TheVariants.{ClassLayout}
use Rattle.pe_image.specs.Sections.{bytes_from}
use Rattle.sig_tree.specs.declared.tree.SigTree.{SigTree}
use Rattle.sig_tree.specs.declared.tree.SigTree.TheVariants as sorts
use Rattle.sig_tree.specs.declared.tree.TypeSig.{TypeSig}
use Rattle.sig_tree.specs.declared.tree.TypeSig.TheOpen.{TypeSig-F, Prim, Value as ValueType, Mod}
use Rattle.sig_tree.specs.declared.tree.TypeSig.TheFolds.{fold-TypeSig}
use Rattle.node_model.specs.Cells.{reference_cell}
use Rattle.node_model.specs.Signatures.{sig_of}
use Rattle.node_model.specs.Streams.{ImageStreams, number_of_column}
use Rattle.node_model.specs.declared.cell.Cell.{Cell}
use Rattle.node_model.specs.declared.cell.Cell.TheVariants as cells
use Rattle.node_model.specs.declared.key.Key.TheVariants.{Data}
use Rattle.node_model.specs.declared.slot.FaultKind.TheVariants.{BadData}
use Rattle.node_model.specs.declared.slot.Slot.{Slot}
use Rattle.node_model.specs.declared.slot.Slot.TheVariants as slots
use Rattle.node_model.specs.declared.value.Value.TheVariants as values

abbrev pub is_among : ℕ → List ℕ → Bool
is_among n ns = list_any (λ m. m == n) ns

-- the bytes of a primitive type, by its element type (II.23.1.16)
abbrev pub prim_size : ℕ → Option ℕ
prim_size code =
    if is_among code (0x02 ∷ 0x04 ∷ 0x05 ∷ []) then Some 1
    else (if is_among code (0x03 ∷ 0x06 ∷ 0x07 ∷ []) then Some 2
    else (if is_among code (0x08 ∷ 0x09 ∷ 0x0c ∷ []) then Some 4
    else (if is_among code (0x0a ∷ 0x0b ∷ 0x0d ∷ []) then Some 8 else None)))

-- the ClassSize of the first of these ClassLayout rows (II.22.8)
abbrev pub first_class_size : ImageStreams → List Token → Option ℕ
first_class_size s [] = None
first_class_size s (row ∷ rows) = Some (number_of_column s row (codes "ClassSize"))

-- the bytes of a value type: those of the ClassLayout of a TypeDef
unfoldable pub class_size : ImageStreams → Token → Option ℕ
class_size s t = if t.table == type_def then first_class_size s (linked_of s.tables t ClassLayout) else None

-- the bytes of a type: modifiers are passed over, and no other type has a size
abbrev pub sized_level : ImageStreams → TypeSig-F (Option ℕ) (Unit {0}) → Option ℕ
sized_level s (Prim code) = prim_size code
sized_level s (ValueType of) = class_size s of
sized_level s (Mod required of size) = size
sized_level s _ = None

abbrev pub type_size : ImageStreams → TypeSig → Option ℕ
type_size s = fold-TypeSig (Option ℕ) (Unit {0}) (sized_level s) (λ m. tt)

-- the bytes of a field by its signature
abbrev pub field_sig_size : ImageStreams → SigTree → Option ℕ
field_sig_size s (sorts.Field t) = type_size s t
field_sig_size s _ = None

-- the field that the row names, its signature, and the bytes of its type
abbrev pub named_field : Option Cell → Option Token
named_field (Some (cells.Ref t)) = Some t
named_field _ = None

unfoldable pub data_size : ImageStreams → Token → Option ℕ
data_size s t =
    named_field (reference_cell s.tables (index_of field (number_of_column s t (codes "Field"))))
    >>= λ f. sig_of s f >>= λ sig. field_sig_size s sig

-- so many bytes from an RVA that is not 0
abbrev pub bytes_there : List ℕ → ℕ → ℕ → Option (List ℕ)
bytes_there b rva size = if rva == 0 then None else first_bytes size (bytes_from b rva)

abbrev pub data_slot : Token → Option (List ℕ) → Slot
data_slot t (Some bytes) = slots.Value (values.Data bytes)
data_slot t None = slots.Fault (record { key = Data t; kind = BadData; column = 0 })

unfoldable pub read_data : ImageStreams → List ℕ → Token → Slot
read_data s b t = data_slot t (data_size s t >>= λ size. bytes_there b (number_of_column s t (codes "RVA")) size)
