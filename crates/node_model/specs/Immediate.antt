-- What a key holds in the file as it is: its value, or its one fault. ECMA-335 II.22 to II.25.
use Rattle.std.specs.Prelude.{ℕ, List}
use Rattle.pe_image.specs.Facts.{image_facts}
use Rattle.node_model.specs.Bodies.{read_body}
use Rattle.node_model.specs.Data.{read_data}
use Rattle.node_model.specs.Lists.{read_linked, read_owned}
use Rattle.node_model.specs.Resources.{read_resource}
use Rattle.node_model.specs.Rows.{read_row}
use Rattle.node_model.specs.Signatures.{read_sig}
use Rattle.node_model.specs.Streams.{image_streams}
use Rattle.node_model.specs.declared.key.Key.{Key}
use Rattle.node_model.specs.declared.key.Key.TheVariants.{Row, Sig, Owned, Linked, Body, Data, Resource, Facts}
use Rattle.node_model.specs.declared.slot.Slot.{Slot}
use Rattle.node_model.specs.declared.slot.Slot.TheVariants as slots
use Rattle.node_model.specs.declared.value.Value.TheVariants as values

-- by the bytes of the image alone
abbrev pub read : List ℕ → Key → Slot
read b (Row t) = read_row (image_streams b) t
read b (Sig t) = read_sig (image_streams b) t
read b (Owned t n) = read_owned (image_streams b) t n
read b (Linked t l) = read_linked (image_streams b) t l
read b (Body t) = read_body (image_streams b) b t
read b (Data t) = read_data (image_streams b) b t
read b (Resource t) = read_resource (image_streams b) b t
read b Facts = slots.Value (values.Facts (image_facts b))
