-- What is answered to a query by the slots that are filled.
use Rattle.std.specs.Prelude.{ℕ, Option, Some, None, Result, Ok, Err}
use Rattle.node_model.specs.Nodes.{Nodes, nodes_of}
use Rattle.node_model.specs.Places.{slot_at}
use Rattle.node_model.specs.Questions.{early_reply, query_walk}
use Rattle.node_model.specs.Walk.{said}
use Rattle.node_model.specs.declared.key.Key.{Key}
use Rattle.node_model.specs.declared.query.Query.{Query}
use Rattle.node_model.specs.declared.reply.Reply.{Reply}
use Rattle.node_model.specs.declared.reply.Reply.TheVariants as replies
use Rattle.node_model.specs.declared.slot.Slot.{Slot}
use Rattle.node_model.specs.declared.walk.Halt.{Halt}
use Rattle.node_model.specs.declared.walk.Halt.TheVariants.{Lacks, Faulty}
use Rattle.graph_query.specs.declared.answering.Peek.{Peek}
use Rattle.graph_query.specs.declared.answering.Peek.TheVariants.{Ready, Need}
use Rattle.graph_query.specs.declared.graph.QueryGraph.{QueryGraph}

-- the rows that there are
abbrev pub nodes_asked : QueryGraph → Nodes
nodes_asked g = nodes_of g.rows g.added g.removed.now

-- the slot of a key, if it is filled
abbrev pub slots_asked : QueryGraph → Key → Option Slot
slots_asked g k = slot_at g.slots.now k

-- by what is said before any key is looked at, and by what was said of the keys
abbrev pub peek_from : Option Reply → Result Reply Halt → Peek
peek_from (Some early) said = Ready early
peek_from None (Ok reply) = Ready reply
peek_from None (Err (Faulty fault)) = Ready (replies.Fault fault)
peek_from None (Err (Lacks k)) = Need k

-- the reply, or the first key that the query looks at and that has no slot
unfoldable pub query_answer : Nodes → (Key → Option Slot) → ℕ → Query → Peek
query_answer n slots fills q = peek_from (early_reply n q) (said slots (query_walk n fills q))
