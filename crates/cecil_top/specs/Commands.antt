-- What a command speaks of, and what its answer tells.
use Rattle.std.specs.Prelude.{ℕ, List, [], ◌∷◌, Option, None}
use Rattle.cil_base.specs.Token.{Token}
use Rattle.graph_edits.specs.declared.applied.Outcome.{Outcome}
use Rattle.graph_edits.specs.declared.applied.Outcome.TheVariants.{Done, Refused}
use Rattle.job_text.specs.declared.command.Command.{Command}
use Rattle.job_text.specs.declared.command.Command.TheVariants as commands
use Rattle.node_model.specs.declared.edit.Edit.{Edit}
use Rattle.cecil_top.specs.declared.said.Said.{Said}
use Rattle.cecil_top.specs.declared.said.Said.TheVariants as saids

-- the number of the module that it speaks of
abbrev pub home_of : Command → ℕ
home_of (commands.Query m q) = m
home_of (commands.Edit m e) = m
home_of (commands.Resolve m t) = m
home_of (commands.Attribute m t) = m

-- The point of that module's history for which an answer is given, as a number of entries. A resolution has none: each
-- of its questions has its own.
abbrev pub point_of : Said → ℕ
point_of (saids.Query a) = a.at
point_of (saids.Edit x) = x.at
point_of (saids.Resolved r) = 0

abbrev pub outcome_row : Outcome → Option Token
outcome_row (Done made) = made
outcome_row (Refused r) = None

-- the token of the row that a command made, if it made one
abbrev pub said_token : Said → Option Token
said_token (saids.Query a) = None
said_token (saids.Edit x) = outcome_row x.outcome
said_token (saids.Resolved r) = None

abbrev pub if_done : Edit → Outcome → List Edit
if_done e (Done made) = e ∷ []
if_done e (Refused r) = []

-- the edit of a command that was answered Done
abbrev pub done_by : Command → Said → List Edit
done_by (commands.Query m q) a = []
done_by (commands.Edit m e) (saids.Query a) = []
done_by (commands.Edit m e) (saids.Edit x) = if_done e x.outcome
done_by (commands.Edit m e) (saids.Resolved r) = []
done_by (commands.Resolve m t) a = []
done_by (commands.Attribute m t) a = []
