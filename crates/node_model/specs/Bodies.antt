-- What a method has for a body: ECMA-335 II.22.26, II.23.1.11, II.25.4.
use Rattle.std.specs.Prelude.{ℕ, List, Option, Some, None, ◌==◌, codes, bit_and, if◌then◌else◌}
use Rattle.cil_base.specs.Token.{Token}
use Rattle.il_code.specs.Body.{Body as BodyOf}
use Rattle.il_code.specs.Decoded.{body_at}
use Rattle.pe_image.specs.Sections.{bytes_from}
use Rattle.node_model.specs.Streams.{ImageStreams, number_of_column}
use Rattle.node_model.specs.declared.key.Key.TheVariants.{Body}
use Rattle.node_model.specs.declared.slot.FaultKind.TheVariants.{BadBody}
use Rattle.node_model.specs.declared.slot.Slot.{Slot}
use Rattle.node_model.specs.declared.slot.Slot.TheVariants as slots
use Rattle.node_model.specs.declared.value.BodyValue.TheVariants.{NoBody, Native, Il}
use Rattle.node_model.specs.declared.value.Value.TheVariants as values

abbrev pub body_slot : Token → Option BodyOf → Slot
body_slot t (Some body) = slots.Value (values.Body (Il body))
body_slot t None = slots.Fault (record { key = Body t; kind = BadBody; column = 0 })

-- none at the RVA 0; native code where the code type in ImplFlags is not IL; else the body that the bytes at the RVA
-- spell
unfoldable pub read_body : ImageStreams → List ℕ → Token → Slot
read_body s b t =
    let rva = number_of_column s t (codes "RVA") in
    if rva == 0 then slots.Value (values.Body NoBody)
    else (if bit_and (number_of_column s t (codes "ImplFlags")) 3 == 0
    then body_slot t (body_at (bytes_from b rva) s.users)
    else slots.Value (values.Body (Native rva)))
