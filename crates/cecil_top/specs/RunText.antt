-- The text of a run: a line for each answer to each actor, and then the history of each module. Actors, commands and
-- modules are told by their numbers, from 0 on, and entries by theirs, from 1 on.
use Rattle.std.specs.Prelude.{ℕ, ◌+◌, List, [], ◌∷◌, ◌++◌, codes, length}
use Rattle.std.specs.Fmt.{decimal}
use Rattle.std.specs.List.{flat_map}
use Rattle.cecil_inspect.specs.Lines.{line}
use Rattle.dump_text.specs.Entries.{entry_text}
use Rattle.dump_text.specs.Outcomes.{outcome_text}
use Rattle.dump_text.specs.ReplyText.{reply_text}
use Rattle.job_text.specs.declared.command.Command.{Command}
use Rattle.job_text.specs.declared.command.Command.TheVariants as commands
use Rattle.lazy_core.specs.Slots.{CoreState}
use Rattle.node_model.specs.declared.entry.Entry.{Entry}
use Rattle.resolver.specs.declared.next.Next.{Next}
use Rattle.shared_module.specs.declared.ask.Answer.{Answer}
use Rattle.shared_module.specs.declared.edit.Edited.{Edited}
use Rattle.cecil_top.specs.Commands.{home_of}
use Rattle.cecil_top.specs.EndTexts.{end_text}
use Rattle.cecil_top.specs.declared.record.ActorRecord.{ActorRecord}
use Rattle.cecil_top.specs.declared.record.RunRecord.{RunRecord}
use Rattle.cecil_top.specs.declared.said.Asked.{Asked}
use Rattle.cecil_top.specs.declared.said.Said.{Said}
use Rattle.cecil_top.specs.declared.said.Said.TheVariants as saids

-- to which command of which actor, about which module, and at which point of its history
abbrev pub answer_place : ℕ → ℕ → ℕ → ℕ → List ℕ
answer_place actor number m point =
    decimal actor ++ 0x2e ∷ decimal number ++ codes " m" ++ decimal m ++ codes " @" ++ decimal point

abbrev pub answer_line : ℕ → ℕ → ℕ → Answer → List ℕ
answer_line actor number m a = answer_place actor number m a.at ++ 0x20 ∷ line (reply_text a.reply)

abbrev pub outcome_line : ℕ → ℕ → ℕ → Edited → List ℕ
outcome_line actor number m x = answer_place actor number m x.at ++ 0x20 ∷ line (outcome_text x.outcome)

-- a question of a resolution, of the module that was asked
abbrev pub ask_line : ℕ → ℕ → Asked → List ℕ
ask_line actor number x = answer_place actor number x.home x.answer.at ++ codes " ask " ++ line (reply_text x.answer.reply)

abbrev pub ask_lines : ℕ → ℕ → List Asked → List ℕ
ask_lines actor number asked = flat_map (ask_line actor number) asked

abbrev pub end_word : Command → List ℕ
end_word (commands.Query m q) = codes " resolve "
end_word (commands.Edit m e) = codes " resolve "
end_word (commands.Resolve m t) = codes " resolve "
end_word (commands.Attribute m t) = codes " attribute "

abbrev pub end_line : ℕ → ℕ → Command → Next → List ℕ
end_line actor number command end =
    decimal actor ++ 0x2e ∷ decimal number ++ end_word command ++ line (end_text end)

-- what was said to a command: a resolution has a line for each question, and one for its end
abbrev pub said_lines : ℕ → ℕ → Command → Said → List ℕ
said_lines actor number command (saids.Query a) = answer_line actor number (home_of command) a
said_lines actor number command (saids.Edit x) = outcome_line actor number (home_of command) x
said_lines actor number command (saids.Resolved r) =
    ask_lines actor number r.asked ++ end_line actor number command r.end

-- the answers to an actor, from the command of this number on
abbrev pub answer_lines : ℕ → ℕ → List Command → List Said → List ℕ
answer_lines actor number [] said = []
answer_lines actor number (command ∷ cs) [] = []
answer_lines actor number (command ∷ cs) (a ∷ said) =
    said_lines actor number command a ++ answer_lines actor (number + 1) cs said

-- the answers to all actors, from the one of this number on
abbrev pub actor_lines : ℕ → List ActorRecord → List ℕ
actor_lines number [] = []
actor_lines number (actor ∷ actors) =
    answer_lines number 0 actor.commands actor.said ++ actor_lines (number + 1) actors

abbrev pub entry_line : ℕ → ℕ → Entry → List ℕ
entry_line m place e = codes "m" ++ decimal m ++ codes " " ++ decimal place ++ 0x20 ∷ line (entry_text e)

-- the entries of a module, of which the first has this number
abbrev pub entry_lines : ℕ → ℕ → List Entry → List ℕ
entry_lines m place [] = []
entry_lines m place (e ∷ h) = entry_line m place e ++ entry_lines m (place + 1) h

-- how many entries a module has
abbrev pub history_line : ℕ → List Entry → List ℕ
history_line m h = codes "m" ++ decimal m ++ codes " history " ++ line (decimal (length h))

-- that, and its entries
abbrev pub history_text : ℕ → List Entry → List ℕ
history_text m h = history_line m h ++ entry_lines m 1 h

-- the histories of all modules, from the one of this number on
abbrev pub history_texts : ℕ → List CoreState → List ℕ
history_texts m [] = []
history_texts m (core ∷ cores) = history_text m core.history ++ history_texts (m + 1) cores

unfoldable pub run_text : RunRecord → List ℕ
run_text r = actor_lines 0 r.actors ++ history_texts 0 r.cores
