-- What an edited graph in memory stands for, and what its calls then say.
use Rattle.std.specs.Prelude.{◌≡◌, ℕ, Bool, List, [], ◌∷◌, ◌++◌, Option, Some, None, find, not, is_some, slice_index}
use Rattle.std.specs.Prelude.{Result, Ok, Err, false, ◌||◌, if◌then◌else◌}
use Rattle.cil_base.specs.Token.{Token}
use Rattle.node_model.specs.EditAnswers.{edit_answer, edit_reach}
use Rattle.node_model.specs.Fresh.{is_key_of}
use Rattle.node_model.specs.Graph.{Graph, graph_of}
use Rattle.node_model.specs.Keys.{image_rows}
use Rattle.node_model.specs.Places.{image_shape}
use Rattle.node_model.specs.StandsFor.{StandsFor}
use Rattle.node_model.specs.declared.change.Change.{Change}
use Rattle.node_model.specs.declared.change.RowChange.{RowChange}
use Rattle.node_model.specs.declared.change.RowChange.TheVariants.{Stays, Made, Gone}
use Rattle.node_model.specs.declared.edit.Edit.{Edit}
use Rattle.node_model.specs.declared.edit_refusal.EditRefusal.{EditRefusal}
use Rattle.node_model.specs.declared.key.Key.{Key}
use Rattle.graph_edits.specs.Applying.{applied, change_made}
use Rattle.graph_edits.specs.Graphs.{IsMade, nodes_in, slots_in}
use Rattle.graph_edits.specs.declared.applied.Applied.{Applied}
use Rattle.graph_edits.specs.declared.applied.Applied.TheVariants.{Done, Refused, Need}
use Rattle.graph_edits.specs.declared.graph.EditGraph.{EditGraph}

-- the graph stands for the bytes of an image and edits: its rows and its slots do, and its store has the shape of the
-- image's rows
pub record Stands (b : List ℕ) (j : List Edit) (g : EditGraph) : Type 0 where
  pub graph : StandsFor b j (nodes_in g) (slots_in g)
  pub rows : (table : ℕ) → slice_index g.rows table ≡ image_rows b table
  pub shape : g.slots.shape ≡ image_shape g.rows

abbrev pub is_lacking : EditGraph → Key → Bool
is_lacking g k = not (is_some (slots_in g k))

-- the keys up to the first that passes the test, that one included
abbrev pub up_to : (Key → Bool) → List Key → List Key
up_to test [] = []
up_to test (k ∷ ks) = k ∷ (if test k then [] else up_to test ks)

abbrev pub answer_given : Result (Option Token) EditRefusal → Applied
answer_given (Ok made) = Done made
answer_given (Err r) = Refused r

-- by the first key that is needed, if one is
abbrev pub need_or : Option Key → List Key → Applied → Applied
need_or (Some k) keys answer = Need keys
need_or None keys answer = answer

-- what is answered over a graph of which some slots are in memory: Need of the keys that the edit reaches, up to the
-- first that has no slot; where each has one, the answer of the edit
abbrev pub answer_over : Graph → EditGraph → Edit → Applied
answer_over g memory e =
    need_or (find (is_lacking memory) (edit_reach g e)) (up_to (is_lacking memory) (edit_reach g e))
    (answer_given (edit_answer g e))

-- the edits with this one behind them, if it was done
abbrev pub edits_then : List Edit → Edit → Applied → List Edit
edits_then j e (Done made) = j ++ e ∷ []
edits_then j e (Refused r) = j
edits_then j e (Need ks) = j

-- by the slots that are filled the same is answered as over whatever the graph stands for
abbrev pub EditsMeetTheGraph : Type 0
EditsMeetTheGraph =
    (b : List ℕ) (j : List Edit) (g : EditGraph) (e : Edit) → Stands b j g
    → applied (nodes_in g) (slots_in g) e ≡ answer_over (graph_of b j) g e

-- a change that was made stands for the edits with this one
abbrev pub DoneIsTheNext : Type 0
DoneIsTheNext =
    (b : List ℕ) (j : List Edit) (old new : EditGraph) (e : Edit) (change : Change) → Stands b j old
    → change_made (nodes_in old) (slots_in old) e ≡ Some change → IsMade old change new → Stands b (j ++ e ∷ []) new

-- the keys of a row that is made
abbrev pub is_of_made : RowChange → Key → Bool
is_of_made Stays k = false
is_of_made (Made row sig) k = is_key_of row.token k
is_of_made (Gone t) k = false

-- after a change that was made, the keys with a slot are those before and those of the row that it made
abbrev pub SlotsAreThoseBefore : Type 0
SlotsAreThoseBefore =
    (old new : EditGraph) (e : Edit) (change : Change) (k : Key)
    → change_made (nodes_in old) (slots_in old) e ≡ Some change → IsMade old change new
    → is_some (slots_in new k) ≡ (is_some (slots_in old k) || is_of_made change.rows k)

-- a graph that was kept stands for what it stood for
abbrev pub KeptIsTheSame : Type 0
KeptIsTheSame =
    (b : List ℕ) (j : List Edit) (old new : EditGraph) → Stands b j old
    → new.slots.shape ≡ old.slots.shape → new.rows ≡ old.rows → nodes_in new ≡ nodes_in old
    → ((k : Key) → slots_in new k ≡ slots_in old k) → Stands b j new
