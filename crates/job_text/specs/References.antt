-- Back references, and commands in which each stands replaced by the token that it stands for.
use Rattle.std.specs.Prelude.{◌==◌, List, Option, None, slice_get, map, unwrap_or, if◌then◌else◌}
use Rattle.cil_base.specs.Token.{Token, root}
use Rattle.il_code.specs.declared.handler.Handler.{Handler}
use Rattle.il_code.specs.declared.handler.HandlerKind.{HandlerKind}
use Rattle.il_code.specs.declared.handler.HandlerKind.TheVariants as handler_kinds
use Rattle.il_code.specs.declared.instr.Instr.{Instr}
use Rattle.il_code.specs.declared.operand.Operand.{Operand}
use Rattle.il_code.specs.declared.operand.Operand.TheVariants as operands
use Rattle.node_model.specs.declared.cell.Cell.{Cell}
use Rattle.node_model.specs.declared.cell.Cell.TheVariants as cells
use Rattle.node_model.specs.declared.edit.Edit.{Edit}
use Rattle.node_model.specs.declared.edit.Edit.TheVariants as edits
use Rattle.node_model.specs.declared.query.Query.{Query}
use Rattle.node_model.specs.declared.query.Query.TheVariants as queries
use Rattle.job_text.specs.declared.command.Command.{Command}
use Rattle.job_text.specs.declared.command.Command.TheVariants as commands

-- The lists `made` have, of each command of the actor up to now, the token of the row that it made, if it made one.

-- what a token stands for: a token of table 0xFF for what the command of its number made, or for the root
unfoldable pub replaced_token : List (Option Token) → Token → Token
replaced_token made t = if t.table == 0xff then unwrap_or (unwrap_or (slice_get made t.rid) None) root else t

unfoldable pub replaced_cell : List (Option Token) → Cell → Cell
replaced_cell made (cells.Ref t) = cells.Ref (replaced_token made t)
replaced_cell made cell = cell

unfoldable pub replaced_operand : List (Option Token) → Operand → Operand
replaced_operand made (operands.Tok t) = operands.Tok (replaced_token made t)
replaced_operand made operand = operand

abbrev pub replaced_instr : List (Option Token) → Instr → Instr
replaced_instr made instr = record { op = instr.op; operand = replaced_operand made instr.operand }

unfoldable pub replaced_kind : List (Option Token) → HandlerKind → HandlerKind
replaced_kind made (handler_kinds.Typed t) = handler_kinds.Typed (replaced_token made t)
replaced_kind made kind = kind

abbrev pub replaced_handler : List (Option Token) → Handler → Handler
replaced_handler made h = record {
  kind = replaced_kind made h.kind;
  try_start = h.try_start;
  try_end = h.try_end;
  start = h.start;
  end = h.end;
}

unfoldable pub replaced_query : List (Option Token) → Query → Query
replaced_query made (queries.Row t) = queries.Row (replaced_token made t)
replaced_query made (queries.Sig t) = queries.Sig (replaced_token made t)
replaced_query made (queries.Members t table) = queries.Members (replaced_token made t) table
replaced_query made (queries.Links t link) = queries.Links (replaced_token made t) link
replaced_query made (queries.Body t) = queries.Body (replaced_token made t)
replaced_query made (queries.Data t) = queries.Data (replaced_token made t)
replaced_query made (queries.Resource t) = queries.Resource (replaced_token made t)
replaced_query made queries.Facts = queries.Facts
replaced_query made (queries.Name t) = queries.Name (replaced_token made t)
replaced_query made (queries.TypeInfo t) = queries.TypeInfo (replaced_token made t)
replaced_query made (queries.Method t) = queries.Method (replaced_token made t)
replaced_query made (queries.FindType namespace name) = queries.FindType namespace name
replaced_query made (queries.FindMember of table name sig) = queries.FindMember (replaced_token made of) table name sig
replaced_query made queries.Filled = queries.Filled

-- a body that a command sets has no instruction, so that nothing in it stands for another token
unfoldable pub replaced_edit : List (Option Token) → Edit → Edit
replaced_edit made (edits.Set t column cell) = edits.Set (replaced_token made t) column (replaced_cell made cell)
replaced_edit made (edits.SetSig t sig) = edits.SetSig (replaced_token made t) sig
replaced_edit made (edits.SetBody t body) = edits.SetBody (replaced_token made t) body
replaced_edit made (edits.SetData t bytes) = edits.SetData (replaced_token made t) bytes
replaced_edit made (edits.SetResource t value) = edits.SetResource (replaced_token made t) value
replaced_edit made (edits.SetEntry t) = edits.SetEntry (replaced_token made t)
replaced_edit made (edits.Add table cells sig) = edits.Add table (map (replaced_cell made) cells) sig
replaced_edit made (edits.Insert owner table at cells sig) =
    edits.Insert (replaced_token made owner) table at (map (replaced_cell made) cells) sig
replaced_edit made (edits.Remove owner t) = edits.Remove (replaced_token made owner) (replaced_token made t)
replaced_edit made (edits.IlInsert t at instr) = edits.IlInsert (replaced_token made t) at (replaced_instr made instr)
replaced_edit made (edits.IlRemove t at) = edits.IlRemove (replaced_token made t) at
replaced_edit made (edits.IlReplace t at instr) = edits.IlReplace (replaced_token made t) at (replaced_instr made instr)
replaced_edit made (edits.IlHead t stack init locals) =
    edits.IlHead (replaced_token made t) stack init (replaced_token made locals)
replaced_edit made (edits.AddHandler t handler) =
    edits.AddHandler (replaced_token made t) (replaced_handler made handler)
replaced_edit made (edits.RemoveHandler t at) = edits.RemoveHandler (replaced_token made t) at

-- a command in which no back reference is left
unfoldable pub replaced_command : List (Option Token) → Command → Command
replaced_command made (commands.Query m query) = commands.Query m (replaced_query made query)
replaced_command made (commands.Edit m edit) = commands.Edit m (replaced_edit made edit)
replaced_command made (commands.Resolve m t) = commands.Resolve m (replaced_token made t)
replaced_command made (commands.Attribute m t) = commands.Attribute m (replaced_token made t)
