-- The steps of a core, by the bytes of the image and the history before the step.
use Rattle.std.specs.Prelude.{◌≡◌, ℕ, ◌-◌, length, List, [], ◌∷◌, ◌++◌, Option, Some, None, Result, Ok, Err, find, not}
use Rattle.std.specs.Prelude.{is_some, slice_get, true, if◌then◌else◌}
use Rattle.cil_base.specs.Token.{Token}
use Rattle.node_model.specs.EditAnswers.{edit_answer, edit_reach}
use Rattle.node_model.specs.Replies.{reach, reply}
use Rattle.node_model.specs.declared.edit.Edit.{Edit as EditOf}
use Rattle.node_model.specs.declared.edit_refusal.EditRefusal.{EditRefusal}
use Rattle.node_model.specs.declared.entry.By.{By}
use Rattle.node_model.specs.declared.entry.Entry.{Entry}
use Rattle.node_model.specs.declared.entry.Entry.TheVariants.{Fill, Edit}
use Rattle.node_model.specs.declared.entry.Why.TheVariants as whys
use Rattle.node_model.specs.declared.key.Key.{Key}
use Rattle.node_model.specs.declared.query.Query.{Query}
use Rattle.lazy_core.specs.History.{fills, filled, graph_after}
use Rattle.lazy_core.specs.Legal.{WasWanted}
use Rattle.graph_query.specs.declared.answering.Peek.{Peek}
use Rattle.graph_query.specs.declared.answering.Peek.TheVariants.{Ready, Need}
use Rattle.lazy_core.specs.declared.wanted.Published.{Published}
use Rattle.lazy_core.specs.declared.wanted.Published.TheVariants.{Stored, Already}
use Rattle.lazy_core.specs.declared.wanted.Tried.{Tried}
use Rattle.lazy_core.specs.declared.wanted.Tried.TheVariants as tries
use Rattle.lazy_core.specs.declared.wanted.Wanted.{Wanted}

abbrev pub peek_at : List ℕ → List Entry → Query → Option Key → Peek
peek_at b h q (Some k) = Need k
peek_at b h q None = Ready (reply (graph_after b h) (fills h) q)

-- Need of the first key that the query looks at and that is not filled, else Ready with the reply; the history stays
unfoldable pub peeked : List ℕ → List Entry → Query → Peek
peeked b h q = peek_at b h q (find (λ k. not (filled b h k)) (reach (graph_after b h) q))

-- Already where the key is filled, else Stored
abbrev pub published : List ℕ → List Entry → Wanted → Published
published b h w = if filled b h w.key then Already else Stored

-- Stored adds one fill, and Already nothing
abbrev pub history_after : List ℕ → List Entry → Wanted → List Entry
history_after b h w = if filled b h w.key then h else h ++ Fill w.by w.point w.why w.key ∷ []

-- keys up to the first that is not filled, that one included
abbrev pub up_to_unfilled : List ℕ → List Entry → List Key → List Key
up_to_unfilled b h [] = []
up_to_unfilled b h (k ∷ ks) = k ∷ (if filled b h k then up_to_unfilled b h ks else [])

abbrev pub tried_answer : Result (Option Token) EditRefusal → Tried
tried_answer (Ok made) = tries.Done made
tried_answer (Err r) = tries.Refused r

abbrev pub try_at : List Key → Result (Option Token) EditRefusal → Option Key → Tried
try_at ks answer (Some k) = tries.Need ks
try_at ks answer None = tried_answer answer

-- Need of the keys that the edit looks at, up to the first that is not filled, else what the edit answers
unfoldable pub tried : List ℕ → List Entry → EditOf → Tried
tried b h e =
    let ks = edit_reach (graph_after b h) e in
    try_at (up_to_unfilled b h ks) (edit_answer (graph_after b h) e) (find (λ k. not (filled b h k)) ks)

-- Done adds one entry with the edit, and Refused and Need nothing
abbrev pub history_tried : By → EditOf → List Entry → Tried → List Entry
history_tried by e h (tries.Done made) = h ++ Edit by (e ∷ []) ∷ []
history_tried by e h (tries.Refused r) = h
history_tried by e h (tries.Need ks) = h

abbrev pub last_key : List Key → Option Key
last_key ks = slice_get ks (length ks - 1)

-- a key that is needed for a query is wanted for it at the history as it stands
abbrev pub NeedIsWanted : Type 0
NeedIsWanted =
    (b : List ℕ) (h : List Entry) (q : Query) (k : Key) → peeked b h q ≡ Need k
    → WasWanted b h (length h) (whys.Query q) k

-- keys that are needed for an edit are some
abbrev pub NeedHasALast : Type 0
NeedHasALast =
    (b : List ℕ) (h : List Entry) (e : EditOf) (ks : List Key) → tried b h e ≡ tries.Need ks
    → is_some (last_key ks) ≡ true

-- the last of the keys that are needed for an edit is wanted for all of them
abbrev pub TryNeedIsWanted : Type 0
TryNeedIsWanted =
    (b : List ℕ) (h : List Entry) (e : EditOf) (ks : List Key) (k : Key) → tried b h e ≡ tries.Need ks
    → last_key ks ≡ Some k → WasWanted b h (length h) (whys.Keys ks) k
