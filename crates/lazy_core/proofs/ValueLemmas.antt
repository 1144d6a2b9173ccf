-- The reply by the value that a key holds, where it is of the key's kind.
use Rattle.std.proofs.Common.{◌≡◌, refl, ℕ, List, true}
use Rattle.cil_base.specs.Token.{Token}
use Rattle.pe_image.specs.declared.facts.Facts.{Facts}
use Rattle.sig_tree.specs.declared.tree.SigTree.{SigTree}
use Rattle.node_model.specs.Keys.{token_of_key}
use Rattle.node_model.specs.declared.key.Key.{Key}
use Rattle.node_model.specs.declared.key.Key.TheVariants as keys
use Rattle.node_model.specs.declared.reply.Reply.TheVariants as replies
use Rattle.node_model.specs.declared.slot.Fault.{Fault}
use Rattle.node_model.specs.declared.slot.Slot.TheVariants as slots
use Rattle.node_model.specs.declared.value.BodyValue.{BodyValue}
use Rattle.node_model.specs.declared.value.ResourceValue.{ResourceValue}
use Rattle.node_model.specs.declared.value.RowValue.{RowValue}
use Rattle.node_model.specs.declared.value.Value.TheVariants as values
use Rattle.lazy_core.specs.inner.Replies.{fits_key, slot_reply_of}

pub row_said : (k : Key) (row : RowValue) → fits_key k (slots.Value (values.Row row)) ≡ true → slot_reply_of k (slots.Value (values.Row row)) ≡ replies.Row row
unfolding slot_reply_of
row_said (keys.Row t) row e = refl
row_said _ row e = absurd cc

pub sig_said : (k : Key) (sig : SigTree) → fits_key k (slots.Value (values.Sig sig)) ≡ true → slot_reply_of k (slots.Value (values.Sig sig)) ≡ replies.Sig (token_of_key k) sig
unfolding slot_reply_of
sig_said (keys.Sig t) sig e = refl
sig_said _ sig e = absurd cc

pub tokens_said : (k : Key) (tokens : List Token) → fits_key k (slots.Value (values.Tokens tokens)) ≡ true → slot_reply_of k (slots.Value (values.Tokens tokens)) ≡ replies.Tokens k tokens
unfolding slot_reply_of
tokens_said (keys.Owned t n) tokens e = refl
tokens_said (keys.Linked t l) tokens e = refl
tokens_said _ tokens e = absurd cc

pub body_said : (k : Key) (body : BodyValue) → fits_key k (slots.Value (values.Body body)) ≡ true → slot_reply_of k (slots.Value (values.Body body)) ≡ replies.Body (token_of_key k) body
unfolding slot_reply_of
body_said (keys.Body t) body e = refl
body_said _ body e = absurd cc

pub data_said : (k : Key) (bytes : List ℕ) → fits_key k (slots.Value (values.Data bytes)) ≡ true → slot_reply_of k (slots.Value (values.Data bytes)) ≡ replies.Data (token_of_key k) bytes
unfolding slot_reply_of
data_said (keys.Data t) bytes e = refl
data_said _ bytes e = absurd cc

pub resource_said : (k : Key) (value : ResourceValue) → fits_key k (slots.Value (values.Resource value)) ≡ true → slot_reply_of k (slots.Value (values.Resource value)) ≡ replies.Resource (token_of_key k) value
unfolding slot_reply_of
resource_said (keys.Resource t) value e = refl
resource_said _ value e = absurd cc

pub facts_said : (k : Key) (facts : Facts) → fits_key k (slots.Value (values.Facts facts)) ≡ true → slot_reply_of k (slots.Value (values.Facts facts)) ≡ replies.Facts facts
unfolding slot_reply_of
facts_said keys.Facts facts e = refl
facts_said _ facts e = absurd cc

-- of each kind of value
pub ruleset value_said = (row_said, sig_said, tokens_said, body_said, data_said, resource_said, facts_said)

pub fault_said : (k : Key) (f : Fault) → slot_reply_of k (slots.Fault f) ≡ replies.Fault f
unfolding slot_reply_of
fault_said (keys.Row t) f = refl
fault_said (keys.Sig t) f = refl
fault_said (keys.Owned t n) f = refl
fault_said (keys.Linked t l) f = refl
fault_said (keys.Body t) f = refl
fault_said (keys.Data t) f = refl
fault_said (keys.Resource t) f = refl
fault_said keys.Facts f = refl
