-- The row that a command makes, for the back references of later commands.
use Rattle.std.specs.Prelude.{ℕ, Option, Some, None}
use Rattle.node_model.specs.declared.edit.Edit.{Edit}
use Rattle.node_model.specs.declared.edit.Edit.TheVariants.{Add, Insert}
use Rattle.job_text.specs.declared.command.Command.{Command}
use Rattle.job_text.specs.declared.command.Command.TheVariants as commands
use Rattle.job_text.specs.declared.new_row.NewRow.{NewRow}

-- the module and the table of the row
abbrev pub edit_row : ℕ → Edit → Option NewRow
edit_row m (Add table cells sig) = Some (record { «module» = m; table = table })
edit_row m (Insert owner table at cells sig) = Some (record { «module» = m; table = table })
edit_row m edit = None

unfoldable pub made_row : Command → Option NewRow
made_row (commands.Query m query) = None
made_row (commands.Edit m edit) = edit_row m edit
made_row (commands.Resolve m t) = None
made_row (commands.Attribute m t) = None
