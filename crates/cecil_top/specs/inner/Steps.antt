-- What one command adds to the history of its module for its caller, from what the caller had seen of it to what it has
-- seen. No public contract cites this word.
use Rattle.std.specs.Prelude.{◌≡◌, ℕ, ◌≤◌, List, ◌++◌, length, slice_get, take, Some}
use mathlib.Core.List.{IsPrefix}
use Rattle.turn_lock.specs.Views.{own}
use Rattle.job_text.specs.declared.command.Command.{Command}
use Rattle.node_model.specs.declared.entry.By.{By}
use Rattle.node_model.specs.declared.entry.Entry.{Entry}
use Rattle.lazy_core.specs.History.{edits, entry_caller}
use Rattle.cecil_top.specs.Commands.{done_by, point_of}
use Rattle.cecil_top.specs.Explained.{IsAnswerTo, IsEntryOf, entry_begun, entry_by}
use Rattle.cecil_top.specs.declared.said.Said.{Said}

pub record IsStep (b : List ℕ) (by : By) (command : Command) (a : Said) (before after : List Entry) : Type 0 where
  pub later : IsPrefix before after
  pub made :
      (i : ℕ) (e : Entry) → length before ≤ i → slice_get after i ≡ Some e → entry_caller e ≡ by.caller
      → (entry_by e ≡ by) × IsEntryOf b command (take i after) e × (length before ≤ entry_begun i e)
  pub point : point_of a ≡ length after
  pub answer : IsAnswerTo b by command a after
  pub edited : edits (own entry_caller by.caller after) ≡ edits (own entry_caller by.caller before) ++ done_by command a
