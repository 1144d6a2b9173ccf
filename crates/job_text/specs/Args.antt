-- What the arguments of a command say, one after the other, each by its kind. A value that is none of its kind makes the
-- whole no command.
use Rattle.std.specs.Prelude.{ℕ, List, [], ◌∷◌, Bool, true, false, Option, Some, None, if◌then◌else◌, option_map}
use Rattle.cil_base.specs.Steps.{◌>>=◌}
use Rattle.cil_base.specs.Token.{root}
use Rattle.il_code.specs.declared.handler.HandlerKind.TheVariants as handler_kinds
use Rattle.il_code.specs.declared.operand.Operand.TheVariants as operands
use Rattle.md_schema.specs.declared.link.Link.TheVariants.{InterfaceImpl}
use Rattle.node_model.specs.declared.cell.Cell.TheVariants as cells
use Rattle.node_model.specs.declared.edit.OptSig.TheVariants as sigs
use Rattle.node_model.specs.declared.query.OptText.TheVariants as texts
use Rattle.serde_json.specs.Data.{Data}
use Rattle.job_text.specs.ArgumentValues.{given_u32, given_table, given_link, given_column, given_code, given_kind, given_member_table, given_sig, given_sig_or_null, given_text_or_null, given_code_operand}
use Rattle.job_text.specs.Cells.{given_column_cell, given_cells, given_bytes}
use Rattle.job_text.specs.Handlers.{kind_with}
use Rattle.job_text.specs.Tokens.{given_token}
use Rattle.job_text.specs.Values.{given_flag, is_null, given_number, given_text}
use Rattle.job_text.specs.declared.args.Args.{Args}
use Rattle.job_text.specs.declared.command.Command.{Command}
use Rattle.job_text.specs.declared.form.ArgumentKind.{ArgumentKind}
use Rattle.job_text.specs.declared.form.ArgumentKind.TheVariants as kinds

abbrev pub no_args : Args
no_args = record {
  «module» = 0;
  token = root;
  table = 0;
  other = root;
  link = InterfaceImpl;
  column = 0;
  cell = cells.NoRef;
  cells = [];
  sig = sigs.None;
  at = 0;
  max_stack = 0;
  init_locals = false;
  namespace = [];
  name = [];
  text = texts.None;
  bytes = [];
  code = 0;
  operand = operands.None;
  handler = record { kind = handler_kinds.Finally; try_start = 0; try_end = 0; start = 0; end = 0 };
}

-- what is known after one more argument; there are n modules, and the actor has the commands before
unfoldable pub with_argument : ℕ → List Command → ArgumentKind → Args → Data → Option Args
with_argument n before kinds.Module a d = option_map (λ m. record a { «module» = m }) (given_number n d)
with_argument n before kinds.Token a d =
    option_map (λ t. record a { token = t.token; table = t.table }) (given_token a.«module» before d)
with_argument n before kinds.Owner a d = option_map (λ t. record a { other = t.token }) (given_token a.«module» before d)
with_argument n before kinds.Locals a d =
    if is_null d then Some (record a { other = root })
    else option_map (λ t. record a { other = t.token }) (given_token a.«module» before d)
with_argument n before kinds.Table a d = option_map (λ t. record a { table = t }) (given_table d)
with_argument n before kinds.MemberTable a d =
    option_map (λ t. record a { table = t }) (given_member_table d)
with_argument n before kinds.Link a d = option_map (λ l. record a { link = l }) (given_link d)
with_argument n before kinds.Column a d = option_map (λ c. record a { column = c }) (given_column a.table d)
with_argument n before kinds.Cell a d =
    option_map (λ c. record a { cell = c }) (given_column_cell a.«module» before a.table a.column d)
with_argument n before kinds.Cells a d =
    option_map (λ cs. record a { cells = cs }) (given_cells a.«module» before a.table d)
with_argument n before kinds.Sig a d = option_map (λ s. record a { sig = sigs.Is s }) (given_sig a.table d)
with_argument n before kinds.SigOrNull a d = option_map (λ s. record a { sig = s }) (given_sig_or_null a.table d)
with_argument n before kinds.At a d = option_map (λ k. record a { at = k }) (given_u32 d)
with_argument n before kinds.MaxStack a d = option_map (λ k. record a { max_stack = k }) (given_number 65536 d)
with_argument n before kinds.InitLocals a d = option_map (λ b. record a { init_locals = b }) (given_flag d)
with_argument n before kinds.Namespace a d = option_map (λ t. record a { namespace = t }) (given_text d)
with_argument n before kinds.Name a d = option_map (λ t. record a { name = t }) (given_text d)
with_argument n before kinds.TextOrNull a d = option_map (λ t. record a { text = t }) (given_text_or_null d)
with_argument n before kinds.Bytes a d = option_map (λ bs. record a { bytes = bs }) (given_bytes d)
with_argument n before kinds.Code a d = option_map (λ c. record a { code = c }) (given_code d)
with_argument n before kinds.Operand a d =
    option_map (λ o. record a { operand = o }) (given_code_operand a.«module» before a.code d)
with_argument n before kinds.HandlerKind a d =
    option_map (λ k. record a { handler = record a.handler { kind = k } }) (given_kind d)
with_argument n before kinds.TryStart a d =
    option_map (λ k. record a { handler = record a.handler { try_start = k } }) (given_u32 d)
with_argument n before kinds.TryEnd a d =
    option_map (λ k. record a { handler = record a.handler { try_end = k } }) (given_u32 d)
with_argument n before kinds.HandlerStart a d =
    option_map (λ k. record a { handler = record a.handler { start = k } }) (given_u32 d)
with_argument n before kinds.HandlerEnd a d =
    option_map (λ k. record a { handler = record a.handler { end = k } }) (given_u32 d)
with_argument n before kinds.HandlerWith a d =
    option_map (λ k. record a { handler = record a.handler { kind = k } }) (kind_with a.«module» before a.handler.kind d)

-- the arguments after a value that is of its kind
abbrev pub if_fits : Bool → Args → Option Args
if_fits true a = Some a
if_fits false a = None

-- all arguments: as many values as there are kinds
unfoldable pub with_arguments : ℕ → List Command → List ArgumentKind → Args → List Data → Option Args
with_arguments n before [] a [] = Some a
with_arguments n before [] a (d ∷ ds) = None
with_arguments n before (kind ∷ kinds) a [] = None
with_arguments n before (kind ∷ kinds) a (d ∷ ds) =
    with_argument n before kind a d >>= λ b. with_arguments n before kinds b ds
