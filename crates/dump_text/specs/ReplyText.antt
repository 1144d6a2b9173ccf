-- How a reply is printed, without a line feed.
use Rattle.std.specs.Prelude.{ℕ, List, ◌∷◌, ◌++◌, codes}
use Rattle.std.specs.Fmt.{decimal}
use Rattle.asm_names.specs.Assembly.{hex_text}
use Rattle.node_model.specs.declared.key.Key.TheVariants as keys
use Rattle.node_model.specs.declared.reply.Reply.{Reply}
use Rattle.node_model.specs.declared.reply.Reply.TheVariants as replies
use Rattle.node_model.specs.declared.value.ResourceValue.{ResourceValue}
use Rattle.node_model.specs.declared.value.ResourceValue.TheVariants.{Here, Elsewhere}
use Rattle.sig_tree.specs.Printed.{own_text}
use Rattle.dump_text.specs.FactsText.{facts_text}
use Rattle.dump_text.specs.Faults.{fault_text}
use Rattle.dump_text.specs.KeyTexts.{key_text}
use Rattle.dump_text.specs.Pieces.{quoted}
use Rattle.dump_text.specs.Rows.{row_text}
use Rattle.dump_text.specs.ViewTexts.{keyed_body, method_text, sig_text, tokens_text, type_text}

-- what stands behind the key of a resource
abbrev pub resource_text : ResourceValue → List ℕ
resource_text (Here bytes) = 0x20 ∷ hex_text bytes
resource_text (Elsewhere offset) = codes " at " ++ decimal offset

unfoldable pub reply_text : Reply → List ℕ
reply_text (replies.Row row) = row_text row
reply_text (replies.Sig t sig) = sig_text t sig
reply_text (replies.Tokens k ts) = tokens_text k ts
reply_text (replies.Body t body) = keyed_body t body
reply_text (replies.Data t bytes) = key_text (keys.Data t) ++ 0x20 ∷ hex_text bytes
reply_text (replies.Resource t value) = key_text (keys.Resource t) ++ resource_text value
reply_text (replies.Facts facts) = facts_text facts
reply_text (replies.Name t name) = codes "name " ++ own_text t ++ 0x20 ∷ quoted name
reply_text (replies.TypeInfo view) = type_text view
reply_text (replies.Method view) = method_text view
reply_text (replies.Found t) = codes "found " ++ own_text t
reply_text replies.NotFound = codes "notfound"
reply_text (replies.Filled count) = codes "filled " ++ decimal count
reply_text (replies.Fault fault) = fault_text fault
reply_text (replies.Absent t) = codes "absent " ++ own_text t
reply_text (replies.Removed t) = codes "removed " ++ own_text t
reply_text (replies.WrongKind t) = codes "wrongkind " ++ own_text t
