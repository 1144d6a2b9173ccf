-- A core may go to another thread, part by part.
use denote.Param.Send.{IsSend, sendable}
use Rattle.std.proofs.Crossing.{crosses}
use Rattle.il_code.proofs.handler.Handler.TheSendSync as handler
use Rattle.il_code.proofs.instr.Instr.TheSendSync as instr
use Rattle.pe_image.proofs.facts.Facts.TheSendSync as facts
use Rattle.sig_tree.proofs.tree.TypeSig.TheLaws.TheKnot as types
use Rattle.sig_tree.specs.contracts.sig.Sig as sig
use Rattle.slot_store.proofs.slots.Slots.TheSendSync as store
use Rattle.node_model.proofs.cell.Cell.TheSendSync as cell
use Rattle.node_model.proofs.entry.Why.TheSendSync as why
use Rattle.node_model.proofs.key.Key.TheSendSync as key
use Rattle.node_model.proofs.slot.Fault.TheSendSync as fault
use Rattle.node_model.proofs.value.BodyValue.TheSendSync as body
use Rattle.node_model.proofs.value.ResourceValue.TheSendSync as resource
use Rattle.node_model.proofs.value.RowValue.TheSendSync as row
use Rattle.node_model.specs.contracts.edit.Edit as edit
use Rattle.node_model.specs.contracts.edit.OptSig as opt_sig
use Rattle.node_model.specs.contracts.entry.Entry as entry
use Rattle.node_model.specs.contracts.slot.Slot as slot
use Rattle.node_model.specs.contracts.value.Value as value
use Rattle.node_read.proofs.image.Image.TheSendSync as image
use Rattle.graph_edits.specs.contracts.graph.EditGraph as graph
use Rattle.lazy_core.specs.contracts.lazy.Core as core

sig_field : IsSend (sig.the_field).row
sig_field = search (crosses, types.crosses, sendable) depth 60 fits 20000

value_field : IsSend (value.the_field).row
value_field = search (sig_field, row.the_field_send, body.the_field_send, resource.the_field_send, facts.the_field_send, crosses, sendable) depth 60 fits 20000

slot_field : IsSend (slot.the_field).row
slot_field = search (value_field, fault.the_field_send, sendable) depth 60 fits 20000

slot_send : IsSend slot.the_row
slot_send = search (slot_field, sendable) depth 60 fits 20000

opt_sig_field : IsSend (opt_sig.the_field).row
opt_sig_field = search (sig_field, crosses, sendable) depth 60 fits 20000

edit_field : IsSend (edit.the_field).row
edit_field =
    search (sig_field, opt_sig_field, cell.the_field_send, body.the_field_send, resource.the_field_send, instr.the_field_send, handler.the_field_send, crosses, sendable)
    depth 60 fits 40000

edit_send : IsSend edit.the_row
edit_send = search (edit_field, sendable) depth 60 fits 20000

entry_field : IsSend (entry.the_field).row
entry_field = search (edit_send, why.the_field_send, crosses, sendable) depth 60 fits 20000

entry_send : IsSend entry.the_row
entry_send = search (entry_field, sendable) depth 60 fits 20000

graph_field : IsSend (graph.the_field).row
graph_field = search (slot_send, store.the_send, key.the_send, crosses, sendable) depth 60 fits 20000

pub core_send : IsSend core.the_row
core_send = search (graph_field, image.the_send, image.the_sync, entry_send, crosses, sendable) depth 60 fits 20000
