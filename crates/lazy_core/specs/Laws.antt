-- What follows of the definitions alone.
use Rattle.std.specs.Prelude.{◌≡◌, ◌≢◌, ℕ, List, [], ◌∷◌, ◌++◌, true, false}
use Rattle.node_model.specs.EditAnswers.{edit_answer}
use Rattle.node_model.specs.Immediate.{read}
use Rattle.node_model.specs.Keys.{is_key}
use Rattle.node_model.specs.Look.{look}
use Rattle.node_model.specs.Replies.{reply}
use Rattle.node_model.specs.declared.edit.Edit.{Edit}
use Rattle.node_model.specs.declared.entry.By.{By}
use Rattle.node_model.specs.declared.entry.Entry.{Entry}
use Rattle.node_model.specs.declared.entry.Entry.TheVariants.{Fill}
use Rattle.node_model.specs.declared.entry.Why.{Why}
use Rattle.node_model.specs.declared.key.Key.{Key}
use Rattle.node_model.specs.declared.query.Query.{Query}
use Rattle.node_model.specs.declared.query.Query.TheVariants as queries
use Rattle.node_model.specs.declared.slot.Fault.{Fault}
use Rattle.node_model.specs.declared.slot.Slot.TheVariants as slots
use Rattle.lazy_core.specs.History.{fills, filled, graph_after}
use Rattle.lazy_core.specs.Legal.{Legal}

-- a key of the image that a legal history did not fill holds what the file says
abbrev pub UnfilledIsUntouched : Type 0
UnfilledIsUntouched =
    (b : List ℕ) (h : List Entry) (k : Key) → Legal b h → is_key b k ≡ true → filled b h k ≡ false
    → (graph_after b h).held k ≡ read b k

-- a fault after a legal history is the file's, and names its key
abbrev pub FaultsAreOfTheFile : Type 0
FaultsAreOfTheFile =
    (b : List ℕ) (h : List Entry) (k : Key) (f : Fault) → Legal b h → (graph_after b h).held k ≡ slots.Fault f
    → (read b k ≡ slots.Fault f) × (f.key ≡ k)

-- a fill more changes what no key shows, what no edit answers, and no reply but that of Filled
abbrev pub FillsChangeNothingSeen : Type 0
FillsChangeNothingSeen =
    (b : List ℕ) (h : List Entry) (by : By) (point : ℕ) (why : Why) (key : Key)
    → ((k : Key) → look (graph_after b (h ++ Fill by point why key ∷ [])) k ≡ look (graph_after b h) k)
    × ((e : Edit)
    → edit_answer (graph_after b (h ++ Fill by point why key ∷ [])) e ≡ edit_answer (graph_after b h) e)
    × ((q : Query) → q ≢ queries.Filled
    → reply (graph_after b (h ++ Fill by point why key ∷ [])) (fills (h ++ Fill by point why key ∷ [])) q
    ≡ reply (graph_after b h) (fills h) q)
