-- Replies by slots that are read from the file, without a core. No public contract cites these words.
use Rattle.std.specs.Prelude.{◌≡◌, ℕ, Bool, true, false, List, Option, Some, Result, Ok, Err}
use Rattle.node_model.specs.Graph.{untouched}
use Rattle.node_model.specs.Immediate.{read}
use Rattle.node_model.specs.Questions.{key_reply, value_reply}
use Rattle.node_model.specs.Replies.{reply_by, reply_said}
use Rattle.node_model.specs.Walk.{part, then_said}
use Rattle.node_model.specs.declared.key.Key.{Key}
use Rattle.node_model.specs.declared.reply.Reply.{Reply}
use Rattle.node_model.specs.declared.slot.Slot.{Slot}
use Rattle.node_model.specs.declared.walk.Halt.{Halt}
use Rattle.node_model.specs.declared.walk.Halt.TheVariants.{Lacks, Faulty}

-- the reply by the slot of the key
unfoldable pub slot_reply_of : Key → Slot → Reply
slot_reply_of k s = reply_said (then_said (part k (Some s)) (λ v. Ok (value_reply k v)))

-- something is said, or there is a fault
abbrev pub is_whole : {A : Type 0} → Result A Halt → Bool
is_whole (Ok a) = true
is_whole (Err (Faulty fault)) = true
is_whole (Err (Lacks k)) = false

-- the slot is a fault, or a value of the key's kind
abbrev pub fits_key : Key → Slot → Bool
fits_key k s = is_whole (part k (Some s))

-- the reply to a query that looks at this key alone
unfoldable pub key_said : List ℕ → Key → Reply
key_said b k = reply_by (key_reply (untouched b).nodes k) (slot_reply_of k (read b k))

-- each slot is what the file says
abbrev pub AreRead : List ℕ → (Key → Option Slot) → Type 0
AreRead b slots = (k : Key) (s : Slot) → slots k ≡ Some s → s ≡ read b k
