-- How the one history of a module explains what was answered to one caller about it. Points are numbers of entries, and
-- commands, callers and modules are told by their numbers, from 0 on.
use Rattle.std.specs.Prelude.{◌≡◌, ℕ, ◌<◌, ◌≤◌, List, [], ◌∷◌, length, take, slice_get, Some}
use Rattle.turn_lock.specs.Views.{own}
use Rattle.job_text.specs.declared.command.Command.{Command}
use Rattle.job_text.specs.declared.command.Command.TheVariants as commands
use Rattle.node_model.specs.declared.edit.Edit.{Edit as EditOf}
use Rattle.node_model.specs.declared.entry.By.{By}
use Rattle.node_model.specs.declared.entry.Entry.{Entry}
use Rattle.node_model.specs.declared.entry.Entry.TheVariants.{Fill, Edit}
use Rattle.node_model.specs.declared.entry.Why.{Why}
use Rattle.lazy_core.specs.History.{edits, entry_caller}
use Rattle.shared_module.specs.Adds.{IsForEdit, IsForQuery, by_of}
use Rattle.shared_module.specs.Answers.{IsAnswer, IsEdited, LastIsDone}
use Rattle.cecil_top.specs.Acts.{Act, done_edits}
use Rattle.cecil_top.specs.Commands.{home_of, point_of}
use Rattle.cecil_top.specs.declared.said.Said.{Said}
use Rattle.cecil_top.specs.declared.said.Said.TheVariants as saids

-- What was said to a command by a history is what its first entries call for, as many as the point says. A query has the
-- reply of these entries, and each key that it looks at is filled by them. An edit that is done is the last of them, by
-- this caller and command, and is done by those before it; one that is refused is refused by all of them. What an edit
-- looks at is filled by the same entries.
abbrev pub IsAnswerTo : List ℕ → By → Command → Said → List Entry → Type 0
IsAnswerTo b by (commands.Query m q) (saids.Query a) h = IsAnswer b q (take a.at h) a
IsAnswerTo b by (commands.Query m q) (saids.Edit x) h = ⊥
IsAnswerTo b by (commands.Query m q) (saids.Resolved r) h = ⊥
IsAnswerTo b by (commands.Edit m e) (saids.Query a) h = ⊥
IsAnswerTo b by (commands.Edit m e) (saids.Edit x) h =
    IsEdited b e (take x.at h) x × LastIsDone by e (take x.at h) x.outcome
IsAnswerTo b by (commands.Edit m e) (saids.Resolved r) h = ⊥
IsAnswerTo b by (commands.Resolve m t) a h = ⊥
IsAnswerTo b by (commands.Attribute m t) a h = ⊥

-- a fill was made for this: the query, or the keys that the edit looks at, up to the first that was not filled
abbrev pub IsReasonOf : List ℕ → Command → List Entry → Why → Type 0
IsReasonOf b (commands.Query m q) h why = IsForQuery q h why
IsReasonOf b (commands.Edit m e) h why = IsForEdit b e h why
IsReasonOf b (commands.Resolve m t) h why = ⊥
IsReasonOf b (commands.Attribute m t) h why = ⊥

abbrev pub AreEditsOf : Command → List EditOf → Type 0
AreEditsOf (commands.Query m q) es = ⊥
AreEditsOf (commands.Edit m e) es = es ≡ e ∷ []
AreEditsOf (commands.Resolve m t) es = ⊥
AreEditsOf (commands.Attribute m t) es = ⊥

-- an entry behind these is a fill for the command, with its reason at its point, or is the command's edit
abbrev pub IsEntryOf : List ℕ → Command → List Entry → Entry → Type 0
IsEntryOf b command before (Fill by point why key) = IsReasonOf b command (take point before) why
IsEntryOf b command before (Edit by es) = AreEditsOf command es

abbrev pub entry_by : Entry → By
entry_by (Fill by point why key) = by
entry_by (Edit by es) = by

-- where an entry began: a fill at its point, and an edit at its own place
abbrev pub entry_begun : ℕ → Entry → ℕ
entry_begun place (Fill by point why key) = point
entry_begun place (Edit by es) = place

-- the act at this place speaks of this module
pub record IsSaid (m : ℕ) (acts : List Act) (n : ℕ) (act : Act) : Type 0 where
  pub told : slice_get acts n ≡ Some act
  pub home : home_of act.asked ≡ m

-- An entry of the caller, with so many entries before it, is one of an act about this module, by its command and step. It
-- stands not behind the answer of this act, and behind what was answered to each earlier one about the module; nor did it
-- begin before that.
pub record StandsBy (b : List ℕ) (m : ℕ) (acts : List Act) (before : List Entry) (e : Entry) : Type 0 where
  pub place : ℕ
  pub act : Act
  pub of : IsSaid m acts place act
  pub command : (entry_by e).command ≡ act.command
  pub step : (entry_by e).step ≡ act.step
  pub belongs : IsEntryOf b act.asked before e
  pub ends : length before < point_of act.said
  pub begins :
      (n : ℕ) (other : Act) → n < place → IsSaid m acts n other
      → (point_of other.said ≤ length before) × (point_of other.said ≤ entry_begun (length before) e)

-- All that was said to the caller k about the module m, whose image has the bytes b, in its acts:
pub record ExplainsCaller (b : List ℕ) (k m : ℕ) (acts : List Act) (h : List Entry) : Type 0 where
  -- each answer is what the history calls for,
  pub answers :
      (n : ℕ) (act : Act) → IsSaid m acts n act → IsAnswerTo b (by_of k act.command act.step) act.asked act.said h
  -- points never fall,
  pub rises :
      (n d : ℕ) (act other : Act) → n < d → IsSaid m acts n act → IsSaid m acts d other
      → point_of act.said ≤ point_of other.said
  -- each entry of the caller stands where it was made,
  pub stands :
      (place : ℕ) (e : Entry) → slice_get h place ≡ Some e → entry_caller e ≡ k
      → StandsBy b m acts (take place h) e
  -- and the caller's edits there are those that were answered Done, each once, in order
  pub edited : edits (own entry_caller k h) ≡ done_edits m acts
