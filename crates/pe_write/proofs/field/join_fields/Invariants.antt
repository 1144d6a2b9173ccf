use Rattle.std.proofs.Common.{◌≡◌, take}
use Rattle.std.specs.List.{flat_map}
use Rattle.pe_write.specs.inner.Field.{field_bytes}
use Rattle.pe_write.proofs.field.join_fields.Given as goal

abbrev pub invariant-loop-field : goal.invariant-loop-field
invariant-loop-field l = l.out ≡ flat_map field_bytes (take l.field-index l.fields)
