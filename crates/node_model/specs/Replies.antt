-- The keys that a query reaches, and its reply, in the edited graph.
use Rattle.std.specs.Prelude.{ℕ, List, [], Option, Some, None, Result, Ok, Err}
use Rattle.node_model.specs.Graph.{Graph}
use Rattle.node_model.specs.Questions.{early_reply, query_walk}
use Rattle.node_model.specs.Walk.{looked, said}
use Rattle.node_model.specs.declared.key.Key.{Key}
use Rattle.node_model.specs.declared.query.Query.{Query}
use Rattle.node_model.specs.declared.reply.Reply.{Reply}
use Rattle.node_model.specs.declared.reply.Reply.TheVariants as replies
use Rattle.node_model.specs.declared.slot.Slot.{Slot}
use Rattle.node_model.specs.declared.walk.Halt.{Halt}
use Rattle.node_model.specs.declared.walk.Halt.TheVariants.{Lacks, Faulty}

abbrev pub all_slots : Graph → Key → Option Slot
all_slots g k = Some (g.held k)

abbrev pub unless_early : Option Reply → List Key → List Key
unless_early (Some reply) keys = []
unless_early None keys = keys

-- the keys that a query looks at, up to the first that holds a fault, that one included; none where it is answered
-- before
unfoldable pub reach : Graph → Query → List Key
reach g q = unless_early (early_reply g.nodes q) (looked (all_slots g) (query_walk g.nodes 0 q))

-- a reply, or the fault of a key. The last never comes: each key of a graph holds something, and a value of its own
-- kind
abbrev pub reply_said : Result Reply Halt → Reply
reply_said (Ok reply) = reply
reply_said (Err (Faulty fault)) = replies.Fault fault
reply_said (Err (Lacks k)) = replies.Filled 0

abbrev pub reply_by : Option Reply → Reply → Reply
reply_by (Some early) reply = early
reply_by None reply = reply

-- the reply to a query, where so many keys were filled
unfoldable pub reply : Graph → ℕ → Query → Reply
reply g fills q = reply_by (early_reply g.nodes q) (reply_said (said (all_slots g) (query_walk g.nodes fills q)))
