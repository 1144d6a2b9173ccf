-- The places that a shape has.
use Rattle.std.specs.Prelude.{Bool, false, ◌&&◌, Option, None, Some, nat_lt, nat_le, slice_index}
use Rattle.slot_store.specs.declared.place.Place.{Place}
use Rattle.slot_store.specs.declared.place.Shape.{Shape}

-- whether there is a place and the shape has it: a row from 1 to the last of its table, and one of the table's kinds
unfoldable pub is_in_shape : Shape → Option Place → Bool
is_in_shape shape None = false
is_in_shape shape (Some p) =
    nat_lt p.table 64
    && (nat_lt 0 p.rid
    && (nat_le p.rid (slice_index shape.rows p.table) && nat_lt p.kind (slice_index shape.kinds p.table)))
