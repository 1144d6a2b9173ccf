-- Parts of replies, as the code makes them. No public contract cites these words.
use Rattle.std.specs.Prelude.{ℕ, Bool, false, List, Option, Result, Ok, if◌then◌else◌}
use Rattle.cil_base.specs.Token.{Token}
use Rattle.sig_tree.specs.declared.tree.SigTree.{SigTree}
use Rattle.node_model.specs.Nodes.{Nodes}
use Rattle.node_model.specs.RowNames.{is_member}
use Rattle.node_model.specs.Walk.{Walk, said}
use Rattle.node_model.specs.declared.key.Key.{Key}
use Rattle.node_model.specs.declared.reply.Reply.{Reply}
use Rattle.node_model.specs.declared.reply.Reply.TheVariants as replies
use Rattle.node_model.specs.declared.slot.Slot.{Slot}
use Rattle.node_model.specs.declared.value.BodyValue.{BodyValue}
use Rattle.node_model.specs.declared.value.RowValue.{RowValue}
use Rattle.node_model.specs.declared.walk.Halt.{Halt}

-- what a test says of a token; one that is no member does not pass it
abbrev pub member_said : (Key → Option Slot) → Nodes → ℕ → (Token → Walk Bool) → Token → Result Bool Halt
member_said p n table test t = if is_member n table t then said p (test t) else Ok false

-- a method by its parts
abbrev pub method_reply : RowValue → SigTree → List RowValue → BodyValue → Reply
method_reply row sig params body = replies.Method (record { row = row; sig = sig; params = params; body = body })
