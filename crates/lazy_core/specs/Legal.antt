-- Which histories there may be over an image.
use Rattle.std.specs.Prelude.{◌≡◌, ◌≢◌, ℕ, ◌≤◌, List, [], ◌∷◌, ◌++◌, length, take, true, false}
use Rattle.std.specs.List.{list_all, list_any}
use Rattle.node_model.specs.EditAnswers.{all_done, edits_reach, up_to_fault}
use Rattle.node_model.specs.Graph.{Graph}
use Rattle.node_model.specs.Keys.{is_key, same_key}
use Rattle.node_model.specs.Replies.{reach}
use Rattle.node_model.specs.declared.edit.Edit.{Edit as EditOf}
use Rattle.node_model.specs.declared.entry.Entry.{Entry}
use Rattle.node_model.specs.declared.entry.Entry.TheVariants.{Fill, Edit}
use Rattle.node_model.specs.declared.entry.Why.{Why}
use Rattle.node_model.specs.declared.entry.Why.TheVariants as whys
use Rattle.node_model.specs.declared.key.Key.{Key}
use Rattle.lazy_core.specs.History.{filled, graph_after}

-- the keys that are looked at for a reason: those of a query, or those that are told, up to the first that holds a
-- fault
abbrev pub reach_why : Graph → Why → List Key
reach_why g (whys.Query q) = reach g q
reach_why g (whys.Keys ks) = up_to_fault g ks

-- The key was wanted at as many entries, which had not filled it: it is one of the image, and what it was wanted for
-- looked at it.
pub record WasWanted (b : List ℕ) (h : List Entry) (point : ℕ) (why : Why) (key : Key) : Type 0 where
  pub early : point ≤ length h
  pub known : is_key b key ≡ true
  pub reached : list_any (same_key key) (reach_why (graph_after b (take point h)) why) ≡ true
  pub unfilled : filled b (take point h) key ≡ false

-- The edits may be made after these entries: there is one, each is done after those before it, and what they look at,
-- but for the keys of rows that one of them makes, is filled.
pub record MayEdit (b : List ℕ) (h : List Entry) (es : List EditOf) : Type 0 where
  pub some : es ≢ []
  pub done : all_done (graph_after b h) es ≡ true
  pub reached : list_all (filled b h) (edits_reach (graph_after b h) es) ≡ true

-- an entry may follow these: a fill of a key that was wanted, and is not filled yet, or edits that may be made
abbrev pub MayFollow : List ℕ → List Entry → Entry → Type 0
MayFollow b before (Fill by point why key) = WasWanted b before point why key × (filled b before key ≡ false)
MayFollow b before (Edit by es) = MayEdit b before es

-- the entries may follow those before them, one after the other
abbrev pub LegalAfter : List ℕ → List Entry → List Entry → Type 0
LegalAfter b before [] = Unit {0}
LegalAfter b before (e ∷ h) = MayFollow b before e × LegalAfter b (before ++ e ∷ []) h

abbrev pub Legal : List ℕ → List Entry → Type 0
Legal b h = LegalAfter b [] h
