-- A turn of a caller: what a query needs next is filled for it. By the bytes of the image and the history before it.
use Rattle.std.specs.Prelude.{◌≢◌, ℕ, length, List, [], ◌∷◌, Option, Some, None}
use Rattle.node_model.specs.declared.entry.By.{By}
use Rattle.node_model.specs.declared.entry.Entry.{Entry}
use Rattle.node_model.specs.declared.entry.Entry.TheVariants.{Fill}
use Rattle.node_model.specs.declared.entry.Why.TheVariants as whys
use Rattle.node_model.specs.declared.key.Key.{Key}
use Rattle.node_model.specs.declared.query.Query.{Query}
use Rattle.lazy_core.specs.Steps.{peeked}
use Rattle.graph_query.specs.declared.answering.Peek.{Peek}
use Rattle.graph_query.specs.declared.answering.Peek.TheVariants.{Ready, Need}

-- the key that is needed; none where the query is answered
abbrev pub needed_key : Peek → Option Key
needed_key (Need k) = Some k
needed_key (Ready reply) = None

-- the entry of a key that is filled for a query as soon as it is needed
abbrev pub fills_next : By → Query → List Entry → Option Key → List Entry
fills_next by q h (Some k) = Fill by (length h) (whys.Query q) k ∷ []
fills_next by q h None = []

-- no query needs the key
abbrev pub IsNeededByNone : List ℕ → List Entry → Key → Type 0
IsNeededByNone b h k = (q : Query) → peeked b h q ≢ Need k
