-- An actor may go to another thread, part by part, and threads may share a module.
use denote.Param.Send.{IsSend, IsSync, sendable}
use Rattle.std.proofs.Crossing.{crosses}
use Rattle.attr_blob.proofs.value.Arg.TheLaws.TheKnot as args
use Rattle.attr_blob.proofs.value.ArgType.TheLaws.TheKnot as arg_types
use Rattle.attr_blob.specs.contracts.value.Arg as arg
use Rattle.attr_blob.specs.contracts.value.AttrValue as attr_value
use Rattle.attr_blob.specs.contracts.value.NamedArg as named_arg
use Rattle.il_code.proofs.handler.Handler.TheSendSync as handler
use Rattle.il_code.proofs.instr.Instr.TheSendSync as instr
use Rattle.pe_image.proofs.facts.Facts.TheSendSync as facts
use Rattle.sig_tree.proofs.tree.TypeSig.TheLaws.TheKnot as types
use Rattle.sig_tree.specs.contracts.sig.Sig as sig
use Rattle.job_text.specs.contracts.command.Command as command
use Rattle.node_model.proofs.cell.Cell.TheSendSync as cell
use Rattle.node_model.proofs.key.Key.TheSendSync as key
use Rattle.node_model.proofs.query.Query.TheSendSync as query
use Rattle.node_model.proofs.slot.Fault.TheSendSync as fault
use Rattle.node_model.proofs.value.BodyValue.TheSendSync as body
use Rattle.node_model.proofs.value.ResourceValue.TheSendSync as resource
use Rattle.node_model.proofs.value.RowValue.TheSendSync as row
use Rattle.node_model.proofs.reply.TypeView.TheSendSync as type_view
use Rattle.node_read.proofs.image.Image.TheSendSync as image
use Rattle.node_model.specs.contracts.edit.Edit as edit
use Rattle.node_model.specs.contracts.edit.OptSig as opt_sig
use Rattle.node_model.specs.contracts.reply.MethodView as method_view
use Rattle.node_model.specs.contracts.reply.Reply as reply
use Rattle.resolver.specs.contracts.next.Next as next
use Rattle.shared_module.proofs.edit.Edited.TheSendSync as edited
use Rattle.shared_module.specs.contracts.ask.Answer as answer
use Rattle.shared_module.specs.contracts.shared.SharedModule as shared
use Rattle.turn_lock.proofs.lock.TurnLock.TheSendSync as lock
use Rattle.turn_lock.proofs.pass.Pass.TheSendSync as pass
use Rattle.lazy_core.proofs.SendLemmas.{core_send}
use Rattle.cecil_top.specs.contracts.actor.Actor as actor
use Rattle.cecil_top.specs.contracts.said.Asked as asked
use Rattle.cecil_top.specs.contracts.said.Resolution as resolution
use Rattle.cecil_top.specs.contracts.said.Said as said

sig_is : IsSend (sig.the_field).row
sig_is = search (crosses, types.crosses, sendable) depth 60 fits 20000

opt_sig_is : IsSend (opt_sig.the_field).row
opt_sig_is = search (sig_is, crosses, sendable) depth 60 fits 20000

edit_is : IsSend (edit.the_field).row
edit_is =
    search (sig_is, opt_sig_is, cell.the_field_send, body.the_field_send, resource.the_field_send, instr.the_field_send, handler.the_field_send, crosses, sendable)
    depth 60 fits 40000

command_is : IsSend (command.the_field).row
command_is = search (edit_is, query.the_field_send, crosses, sendable) depth 60 fits 20000

command_send : IsSend command.the_row
command_send = search (command_is, sendable) depth 60 fits 20000

method_view_is : IsSend (method_view.the_field).row
method_view_is = search (sig_is, row.the_field_send, row.the_send, body.the_field_send, crosses, sendable) depth 60 fits 20000

reply_is : IsSend (reply.the_field).row
reply_is =
    search (
      sig_is,
      method_view_is,
      type_view.the_field_send,
      row.the_field_send,
      body.the_field_send,
      resource.the_field_send,
      facts.the_field_send,
      fault.the_field_send,
      key.the_field_send,
      crosses,
      sendable,
    )
    depth 60 fits 40000

answer_is : IsSend (answer.the_field).row
answer_is = search (reply_is, crosses, sendable) depth 60 fits 20000

named_arg_is : IsSend (named_arg.the_field).row
named_arg_is = search (args.crosses, arg_types.crosses, crosses, sendable) depth 60 fits 20000

named_arg_send : IsSend named_arg.the_row
named_arg_send = search (named_arg_is, sendable) depth 60 fits 20000

arg_is : IsSend (arg.the_field).row
arg_is = search (args.crosses, arg_types.crosses, crosses, sendable) depth 60 fits 20000

arg_send : IsSend arg.the_row
arg_send = search (arg_is, sendable) depth 60 fits 20000

attr_value_is : IsSend (attr_value.the_field).row
attr_value_is = search (arg_send, named_arg_send, crosses, sendable) depth 60 fits 40000

next_is : IsSend (next.the_field).row
next_is = search (attr_value_is, reply_is, query.the_field_send, crosses, sendable) depth 60 fits 20000

asked_is : IsSend (asked.the_field).row
asked_is = search (answer_is, query.the_field_send, crosses, sendable) depth 60 fits 20000

asked_send : IsSend asked.the_row
asked_send = search (asked_is, sendable) depth 60 fits 20000

resolution_is : IsSend (resolution.the_field).row
resolution_is = search (asked_send, next_is, crosses, sendable) depth 60 fits 20000

said_is : IsSend (said.the_field).row
said_is = search (answer_is, edited.the_field_send, resolution_is, crosses, sendable) depth 60 fits 20000

said_send : IsSend said.the_row
said_send = search (said_is, sendable) depth 60 fits 20000

pub actor_send : IsSend actor.the_row
actor_send = search (command_send, said_send, core_send, pass.the_send, crosses, sendable) depth 60 fits 20000

pub module_sync : IsSync shared.the_row
module_sync = search (core_send, lock.the_sync, image.the_send, image.the_sync, crosses, sendable) depth 60 fits 20000
