-- What is answered, by what the slots stand for.
use Rattle.std.specs.Prelude.{◌≡◌, ℕ, Bool, List, Option, Some, None, find, not, is_some}
use Rattle.node_model.specs.Graph.{graph_of}
use Rattle.node_model.specs.Nodes.{Nodes}
use Rattle.node_model.specs.Replies.{reach, reply}
use Rattle.node_model.specs.StandsFor.{StandsFor}
use Rattle.node_model.specs.declared.edit.Edit.{Edit}
use Rattle.node_model.specs.declared.key.Key.{Key}
use Rattle.node_model.specs.declared.query.Query.{Query}
use Rattle.node_model.specs.declared.reply.Reply.{Reply}
use Rattle.node_model.specs.declared.slot.Slot.{Slot}
use Rattle.graph_query.specs.Answered.{query_answer}
use Rattle.graph_query.specs.declared.answering.Peek.{Peek}
use Rattle.graph_query.specs.declared.answering.Peek.TheVariants.{Ready, Need}

abbrev pub has_no_slot : (Key → Option Slot) → Key → Bool
has_no_slot slots k = not (is_some (slots k))

abbrev pub need_or_ready : Option Key → Reply → Peek
need_or_ready (Some k) reply = Need k
need_or_ready None reply = Ready reply

-- whatever the slots stand for: Need of the first key that the query reaches and that has no slot; where each has one,
-- the reply
abbrev pub QueriesMeetTheGraph : Type 0
QueriesMeetTheGraph =
    (b : List ℕ) (j : List Edit) (n : Nodes) (slots : Key → Option Slot) (fills : ℕ) (q : Query) → StandsFor b j n slots
    → query_answer n slots fills q
    ≡ need_or_ready (find (has_no_slot slots) (reach (graph_of b j) q)) (reply (graph_of b j) fills q)
