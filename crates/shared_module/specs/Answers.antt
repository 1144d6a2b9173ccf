-- What a shared core answers, by the entries that the caller has then seen.
use Rattle.std.specs.Prelude.{◌≡◌, ℕ, ◌-◌, List, [], ◌∷◌, ◌++◌, length, take, Option, Result, Ok, Err, true}
use Rattle.std.specs.List.{list_all}
use Rattle.cil_base.specs.Token.{Token}
use Rattle.cil_base.specs.declared.no_memory.NoMemory.{NoMemory}
use Rattle.graph_edits.specs.declared.applied.Outcome.{Outcome}
use Rattle.graph_edits.specs.declared.applied.Outcome.TheVariants.{Done, Refused}
use Rattle.node_model.specs.EditAnswers.{edit_answer, edit_reach}
use Rattle.node_model.specs.Replies.{reach, reply}
use Rattle.node_model.specs.declared.edit.Edit.{Edit as EditOf}
use Rattle.node_model.specs.declared.edit_refusal.EditRefusal.{EditRefusal}
use Rattle.node_model.specs.declared.entry.By.{By}
use Rattle.node_model.specs.declared.entry.Entry.{Entry}
use Rattle.node_model.specs.declared.entry.Entry.TheVariants.{Edit}
use Rattle.node_model.specs.declared.query.Query.{Query}
use Rattle.lazy_core.specs.History.{filled, fills, graph_after}
use Rattle.shared_module.specs.declared.ask.Answer.{Answer}
use Rattle.shared_module.specs.declared.edit.Edited.{Edited}

-- a query is answered at the number of entries that were seen, with the reply that they give, and each key that it
-- looks at is filled by them
pub record IsAnswer (b : List ℕ) (q : Query) (seen : List Entry) (answer : Answer) : Type 0 where
  pub at : answer.at ≡ length seen
  pub said : answer.reply ≡ reply (graph_after b seen) (fills seen) q
  pub reached : list_all (filled b seen) (reach (graph_after b seen) q) ≡ true

abbrev pub outcome_answer : Outcome → Result (Option Token) EditRefusal
outcome_answer (Done made) = Ok made
outcome_answer (Refused r) = Err r

-- all entries but the last
abbrev pub but_last : List Entry → List Entry
but_last h = take (length h - 1) h

-- the entries by which an edit is answered: where it is done those before its own, and else all
abbrev pub answered_by : List Entry → Outcome → List Entry
answered_by seen (Done made) = but_last seen
answered_by seen (Refused r) = seen

-- the same of what a call comes to: where memory is wanting, nothing is done
abbrev pub before_done : List Entry → Result Edited NoMemory → List Entry
before_done seen (Ok edited) = answered_by seen edited.outcome
before_done seen (Err e) = seen

-- an edit is answered at the number of entries that were seen, as the entries before its own call for, and each key
-- that it looks at is filled by these
pub record IsEdited (b : List ℕ) (e : EditOf) (seen : List Entry) (edited : Edited) : Type 0 where
  pub at : edited.at ≡ length seen
  pub said : edit_answer (graph_after b (answered_by seen edited.outcome)) e ≡ outcome_answer edited.outcome
  pub reached :
      list_all (filled b (answered_by seen edited.outcome))
      (edit_reach (graph_after b (answered_by seen edited.outcome)) e)
      ≡ true

abbrev pub LastIsDone : By → EditOf → List Entry → Outcome → Type 0
LastIsDone by e seen (Done made) = seen ≡ but_last seen ++ Edit by (e ∷ []) ∷ []
LastIsDone by e seen (Refused r) = Unit {0}

-- an edit that is done is the last entry that was seen
abbrev pub EndsWithDone : By → EditOf → List Entry → Result Edited NoMemory → Type 0
EndsWithDone by e seen (Ok edited) = LastIsDone by e seen edited.outcome
EndsWithDone by e seen (Err x) = Unit {0}
