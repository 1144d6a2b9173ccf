-- What a graph shows at its keys, and what is taken from that.
use Rattle.std.specs.Prelude.{ℕ, Bool, true, false, List, [], Option, Some, None}
use Rattle.cil_base.specs.Token.{Token}
use Rattle.node_model.specs.Graph.{graph_of}
use Rattle.node_model.specs.Look.{look}
use Rattle.node_model.specs.declared.edit.Edit.{Edit}
use Rattle.node_model.specs.declared.key.Key.{Key}
use Rattle.node_model.specs.declared.look.Look.{Look}
use Rattle.node_model.specs.declared.look.Look.TheVariants as looks
use Rattle.node_model.specs.declared.slot.Fault.{Fault}
use Rattle.node_model.specs.declared.slot.Slot.TheVariants as slots
use Rattle.node_model.specs.declared.value.Value.{Value}
use Rattle.node_model.specs.declared.value.Value.TheVariants as values

-- what is seen of each key in the graph of an image after edits
abbrev pub seen_in : List ℕ → List Edit → Key → Look
seen_in b j = look (graph_of b j)

-- the row is there: it was neither removed nor is it absent
abbrev pub is_seen : Look → Bool
is_seen (looks.Slot slot) = true
is_seen _ = false

abbrev pub value_seen : Look → Option Value
value_seen (looks.Slot (slots.Value value)) = Some value
value_seen _ = None

abbrev pub fault_seen : Look → Option Fault
fault_seen (looks.Slot (slots.Fault fault)) = Some fault
fault_seen _ = None

-- the members of a list
abbrev pub list_members : Option Value → List Token
list_members (Some (values.Tokens tokens)) = tokens
list_members _ = []
