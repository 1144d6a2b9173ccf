-- What a manifest resource names: ECMA-335 II.22.24, II.25.3.3.
use Rattle.std.specs.Prelude.{ℕ, ◌+◌, ◌^◌, List, drop, Option, Some, None, nat_lt, codes, if◌then◌else◌}
use Rattle.cil_base.specs.Heaps.{first_bytes}
use Rattle.cil_base.specs.Place.{number_within}
use Rattle.cil_base.specs.Steps.{◌>>=◌}
use Rattle.cil_base.specs.Token.{Token}
use Rattle.md_schema.specs.Coded.{coded_of}
use Rattle.md_schema.specs.declared.coded_kind.CodedKind.TheVariants.{Implementation}
use Rattle.pe_image.specs.CliHeader.{resources_rva}
use Rattle.pe_image.specs.Sections.{bytes_from}
use Rattle.node_model.specs.Cells.{reference_cell}
use Rattle.node_model.specs.Streams.{ImageStreams, number_of_column}
use Rattle.node_model.specs.declared.cell.Cell.{Cell}
use Rattle.node_model.specs.declared.cell.Cell.TheVariants as cells
use Rattle.node_model.specs.declared.key.Key.TheVariants.{Resource}
use Rattle.node_model.specs.declared.slot.FaultKind.TheVariants.{BadResource}
use Rattle.node_model.specs.declared.slot.Slot.{Slot}
use Rattle.node_model.specs.declared.slot.Slot.TheVariants as slots
use Rattle.node_model.specs.declared.value.ResourceValue.{ResourceValue}
use Rattle.node_model.specs.declared.value.ResourceValue.TheVariants.{Here, Elsewhere}
use Rattle.node_model.specs.declared.value.Value.TheVariants as values

-- a length of four bytes at the front, and as many bytes after it
abbrev pub counted_bytes : List ℕ → Option (List ℕ)
counted_bytes bytes = number_within bytes 0 4 >>= λ size. first_bytes size (drop 4 bytes)

-- the bytes of a resource at an RVA, which is below 2^32
abbrev pub bytes_here : List ℕ → ℕ → Option ResourceValue
bytes_here b rva = if nat_lt rva (2 ^ 32) then (counted_bytes (bytes_from b rva) >>= λ bytes. Some (Here bytes)) else None

-- by the Implementation: of this image where it is null, and elsewhere where it names a row
abbrev pub resource_by : List ℕ → ℕ → Option Cell → Option ResourceValue
resource_by b offset (Some cells.NoRef) = bytes_here b (resources_rva b + offset)
resource_by b offset (Some (cells.Ref t)) = Some (Elsewhere offset)
resource_by b offset _ = None

abbrev pub resource_slot : Token → Option ResourceValue → Slot
resource_slot t (Some value) = slots.Value (values.Resource value)
resource_slot t None = slots.Fault (record { key = Resource t; kind = BadResource; column = 0 })

unfoldable pub read_resource : ImageStreams → List ℕ → Token → Slot
read_resource s b t =
    resource_slot t (resource_by b (number_of_column s t (codes "Offset"))
    (reference_cell s.tables (coded_of Implementation (number_of_column s t (codes "Implementation")))))
