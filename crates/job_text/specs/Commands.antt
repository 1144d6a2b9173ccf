-- The commands of an actor, of the JSON values that give them.
use Rattle.std.specs.Prelude.{ℕ, List, [], ◌∷◌, ◌++◌, false, Option, Some, None, Result, Ok, Err, length, option_map}
use Rattle.cil_base.specs.Steps.{◌>>=◌}
use Rattle.cil_base.specs.Token.{root}
use Rattle.il_code.specs.Body.{Body}
use Rattle.node_model.specs.declared.edit.Edit.{Edit}
use Rattle.node_model.specs.declared.edit.Edit.TheVariants as edits
use Rattle.node_model.specs.declared.edit.OptSig.{OptSig}
use Rattle.node_model.specs.declared.edit.OptSig.TheVariants as sigs
use Rattle.node_model.specs.declared.query.Query.{Query}
use Rattle.node_model.specs.declared.query.Query.TheVariants as queries
use Rattle.node_model.specs.declared.value.BodyValue.TheVariants as bodies
use Rattle.node_model.specs.declared.value.ResourceValue.TheVariants as resources
use Rattle.serde_json.specs.Data.{Data}
use Rattle.job_text.specs.Args.{no_args, with_arguments}
use Rattle.job_text.specs.Forms.{FormOf, form_named}
use Rattle.job_text.specs.Values.{given_list, given_text}
use Rattle.job_text.specs.declared.args.Args.{Args}
use Rattle.job_text.specs.declared.command.Command.{Command}
use Rattle.job_text.specs.declared.command.Command.TheVariants as commands
use Rattle.job_text.specs.declared.word.Change.{Change}
use Rattle.job_text.specs.declared.word.Change.TheVariants as changes
use Rattle.job_text.specs.declared.word.Question.{Question}
use Rattle.job_text.specs.declared.word.Question.TheVariants as questions
use Rattle.job_text.specs.declared.word.Word.{Word}
use Rattle.job_text.specs.declared.word.Word.TheVariants as words

-- the query that a word asks with its arguments
unfoldable pub query_of : Question → Args → Query
query_of questions.Row a = queries.Row a.token
query_of questions.Sig a = queries.Sig a.token
query_of questions.Body a = queries.Body a.token
query_of questions.Data a = queries.Data a.token
query_of questions.Resource a = queries.Resource a.token
query_of questions.Facts a = queries.Facts
query_of questions.Filled a = queries.Filled
query_of questions.Members a = queries.Members a.token a.table
query_of questions.Links a = queries.Links a.token a.link
query_of questions.Name a = queries.Name a.token
query_of questions.TypeInfo a = queries.TypeInfo a.token
query_of questions.Method a = queries.Method a.token
query_of questions.FindType a = queries.FindType a.namespace a.name
query_of questions.FindMember a = queries.FindMember a.token a.table a.name a.text

-- a body without instructions, with the stack of a tiny header (ECMA-335 II.25.4.2)
abbrev pub empty_body : Body
empty_body = record { max_stack = 8; init_locals = false; locals = root; code = []; handlers = [] }

-- the signature that was read is there
abbrev pub sig_edit : Args → OptSig → Option Edit
sig_edit a sigs.None = None
sig_edit a (sigs.Is sig) = Some (edits.SetSig a.token sig)

-- the edit that a word does with its arguments
unfoldable pub edit_of : Change → Args → Option Edit
edit_of changes.Set a = Some (edits.Set a.token a.column a.cell)
edit_of changes.SetSig a = sig_edit a a.sig
edit_of changes.IlNew a = Some (edits.SetBody a.token (bodies.Il empty_body))
edit_of changes.IlDrop a = Some (edits.SetBody a.token bodies.NoBody)
edit_of changes.SetData a = Some (edits.SetData a.token a.bytes)
edit_of changes.SetResource a = Some (edits.SetResource a.token (resources.Here a.bytes))
edit_of changes.SetEntry a = Some (edits.SetEntry a.token)
edit_of changes.Add a = Some (edits.Add a.table a.cells a.sig)
edit_of changes.Insert a = Some (edits.Insert a.token a.table a.at a.cells a.sig)
edit_of changes.Remove a = Some (edits.Remove a.other a.token)
edit_of changes.IlInsert a = Some (edits.IlInsert a.token a.at (record { op = a.code; operand = a.operand }))
edit_of changes.IlReplace a = Some (edits.IlReplace a.token a.at (record { op = a.code; operand = a.operand }))
edit_of changes.IlRemove a = Some (edits.IlRemove a.token a.at)
edit_of changes.IlHead a = Some (edits.IlHead a.token a.max_stack a.init_locals a.other)
edit_of changes.AddHandler a = Some (edits.AddHandler a.token a.handler)
edit_of changes.RemoveHandler a = Some (edits.RemoveHandler a.token a.at)

-- the command that a word gives with its arguments
unfoldable pub command_of : Word → Args → Option Command
command_of (words.Ask question) a = Some (commands.Query a.«module» (query_of question a))
command_of (words.Change change) a = option_map (commands.Edit a.«module») (edit_of change a)
command_of words.Resolve a = Some (commands.Resolve a.«module» a.token)
command_of words.Attribute a = Some (commands.Attribute a.«module» a.token)

-- the command of a form with the values that follow its name
unfoldable pub of_form : ℕ → List Command → List Data → FormOf → Option Command
of_form n before ds form = with_arguments n before form.kinds no_args ds >>= command_of form.word

-- the command of a list's values: its name, and then its arguments
unfoldable pub of_values : ℕ → List Command → List Data → Option Command
of_values n before [] = None
of_values n before (d ∷ ds) = given_text d >>= form_named >>= of_form n before ds

-- the command that a value gives, where there are n modules and the actor has the commands before
unfoldable pub given_command : ℕ → List Command → Data → Option Command
given_command n before d = given_list d >>= of_values n before

-- goes on after a command, and ends with the number of what is none
abbrev pub after_command : {A : Type 0} → List Command → (List Command → Result A ℕ) → Option Command → Result A ℕ
after_command before go None = Err (length before)
after_command before go (Some command) = go (before ++ command ∷ [])

-- the commands of an actor, after those before, or the number of the first value that is none
unfoldable pub commands_from : ℕ → List Command → List Data → Result (List Command) ℕ
commands_from n before [] = Ok before
commands_from n before (d ∷ ds) = after_command before (λ more. commands_from n more ds) (given_command n before d)
