-- The bytes of a field.
use Rattle.std.specs.Prelude.{ℕ, List, replicate}
use Rattle.byteorder.specs.Endian.{little_bytes}
use Rattle.pe_write.specs.Headers.{address}
use Rattle.pe_write.specs.declared.field.Field.{Field}
use Rattle.pe_write.specs.declared.field.Field.TheVariants.{Two, Four, Address, Zeros, Bytes}

abbrev pub field_bytes : Field → List ℕ
field_bytes (Two number) = little_bytes 2 number
field_bytes (Four number) = little_bytes 4 number
field_bytes (Address plus number) = address plus number
field_bytes (Zeros count) = replicate count 0
field_bytes (Bytes bytes) = bytes.now
