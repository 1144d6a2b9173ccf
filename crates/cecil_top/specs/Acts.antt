-- What an actor did, as a list of acts: a query, an edit, or a question of a resolution. Commands and steps go by their
-- numbers, from 0 on.
use Rattle.std.specs.Prelude.{ℕ, ◌+◌, ◌==◌, List, [], ◌∷◌, ◌++◌, if◌then◌else◌}
use Rattle.job_text.specs.declared.command.Command.{Command}
use Rattle.job_text.specs.declared.command.Command.TheVariants as commands
use Rattle.node_model.specs.declared.edit.Edit.{Edit}
use Rattle.cecil_top.specs.Commands.{done_by, home_of}
use Rattle.cecil_top.specs.declared.said.Asked.{Asked}
use Rattle.cecil_top.specs.declared.said.Said.{Said}
use Rattle.cecil_top.specs.declared.said.Said.TheVariants as saids

-- of which command and step it is, the query or edit, and what was said to it
pub record Act : Type 0 where
  pub command : ℕ
  pub step : ℕ
  pub asked : Command
  pub said : Said

-- a question of a resolution is a query of the module that it names
abbrev pub asked_act : ℕ → ℕ → Asked → Act
asked_act n step x =
    record { command = n; step = step; asked = commands.Query x.home x.query; said = saids.Query x.answer }

-- the questions from this step on
abbrev pub asked_acts : ℕ → ℕ → List Asked → List Act
asked_acts n step [] = []
asked_acts n step (x ∷ asked) = asked_act n step x ∷ asked_acts n (step + 1) asked

abbrev pub resolved_acts : ℕ → Said → List Act
resolved_acts n (saids.Query a) = []
resolved_acts n (saids.Edit x) = []
resolved_acts n (saids.Resolved r) = asked_acts n 0 r.asked

-- a query or an edit is one act, of step 0
abbrev pub single_act : ℕ → Command → Said → Act
single_act n command a = record { command = n; step = 0; asked = command; said = a }

-- the acts of one command; of a resolution these are its questions
abbrev pub command_acts : ℕ → Command → Said → List Act
command_acts n (commands.Query m q) a = single_act n (commands.Query m q) a ∷ []
command_acts n (commands.Edit m e) a = single_act n (commands.Edit m e) a ∷ []
command_acts n (commands.Resolve m t) a = resolved_acts n a
command_acts n (commands.Attribute m t) a = resolved_acts n a

-- the acts of an actor, from the command of this number on
abbrev pub acts_from : ℕ → List Command → List Said → List Act
acts_from n [] said = []
acts_from n (command ∷ cs) [] = []
acts_from n (command ∷ cs) (a ∷ said) = command_acts n command a ++ acts_from (n + 1) cs said

-- all acts of an actor, in order
abbrev pub acts_of : List Command → List Said → List Act
acts_of cs said = acts_from 0 cs said

-- the edits of one module that were answered Done, each once, in the order of their commands
abbrev pub done_edits : ℕ → List Act → List Edit
done_edits m [] = []
done_edits m (act ∷ acts) = (if home_of act.asked == m then done_by act.asked act.said else []) ++ done_edits m acts
