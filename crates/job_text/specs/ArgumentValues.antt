-- What the values of arguments say, each by itself.
use Rattle.std.specs.Prelude.{ℕ, ◌^◌, ◌==◌, ◌||◌, List, Option, Some, None, if◌then◌else◌, option_map}
use Rattle.cil_base.specs.Steps.{◌>>=◌}
use Rattle.il_code.specs.Instructions.{kind_of}
use Rattle.il_code.specs.declared.handler.HandlerKind.{HandlerKind}
use Rattle.il_code.specs.declared.operand.Operand.{Operand}
use Rattle.md_schema.specs.declared.link.Link.{Link}
use Rattle.node_model.specs.declared.edit.OptSig.{OptSig}
use Rattle.node_model.specs.declared.edit.OptSig.TheVariants as sigs
use Rattle.node_model.specs.declared.query.OptText.{OptText}
use Rattle.node_model.specs.declared.query.OptText.TheVariants as texts
use Rattle.serde_json.specs.Data.{Data}
use Rattle.sig_tree.specs.TreeAt.{tree_at}
use Rattle.sig_tree.specs.declared.tree.SigTree.{SigTree}
use Rattle.job_text.specs.Cells.{given_bytes}
use Rattle.job_text.specs.Handlers.{kind_named}
use Rattle.job_text.specs.Names.{code_named, cell_column_named, link_named, table_named}
use Rattle.job_text.specs.Operands.{given_operand}
use Rattle.job_text.specs.Values.{is_null, given_number, given_text}
use Rattle.job_text.specs.declared.command.Command.{Command}

unfoldable pub given_u32 : Data → Option ℕ
given_u32 d = given_number (2 ^ 32) d

-- what a text names
unfoldable pub given_table : Data → Option ℕ
given_table d = given_text d >>= table_named

unfoldable pub given_link : Data → Option Link
given_link d = given_text d >>= link_named

unfoldable pub given_column : ℕ → Data → Option ℕ
given_column table d = given_text d >>= cell_column_named table

unfoldable pub given_code : Data → Option ℕ
given_code d = given_text d >>= code_named

unfoldable pub given_kind : Data → Option HandlerKind
given_kind d = given_text d >>= kind_named

-- the table Field or MethodDef
abbrev pub member_table : ℕ → Option ℕ
member_table table = if (table == 0x04) || (table == 0x06) then Some table else None

unfoldable pub given_member_table : Data → Option ℕ
given_member_table d = given_table d >>= member_table

-- hex that parses as a signature, which is a type alone where the table is TypeSpec
unfoldable pub given_sig : ℕ → Data → Option SigTree
given_sig table d = given_bytes d >>= tree_at (table == 0x1b)

unfoldable pub given_sig_or_null : ℕ → Data → Option OptSig
given_sig_or_null table d = if is_null d then Some sigs.None else option_map sigs.Is (given_sig table d)

unfoldable pub given_text_or_null : Data → Option OptText
given_text_or_null d = if is_null d then Some texts.None else option_map texts.Is (given_text d)

-- an operand for the instruction of a code
unfoldable pub given_code_operand : ℕ → List Command → ℕ → Data → Option Operand
given_code_operand m before code d = kind_of code >>= λ kind. given_operand m before kind d
