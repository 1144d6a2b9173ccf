-- Operands as commands give them, by the kinds of their instructions: ECMA-335 III.1.9.
use Rattle.std.specs.Prelude.{ℕ, ◌^◌, pos, negsuc, List, [], ◌∷◌, ◌++◌, Option, Some, None, chars, flat_map}
use Rattle.std.specs.Prelude.{if◌then◌else◌, option_map}
use Rattle.std.specs.Char.Escape.{encode_utf16}
use Rattle.cil_base.specs.Steps.{◌>>=◌}
use Rattle.il_code.specs.declared.kind.OperandKind.{OperandKind}
use Rattle.il_code.specs.declared.kind.OperandKind.TheVariants as kinds
use Rattle.il_code.specs.declared.operand.Operand.{Operand}
use Rattle.il_code.specs.declared.operand.Operand.TheVariants as operands
use Rattle.serde_json.specs.Data.{Data}
use Rattle.job_text.specs.Hex.{eight_digits, sixteen_digits}
use Rattle.job_text.specs.Tokens.{given_token}
use Rattle.job_text.specs.Values.{given_integer, is_null, given_list, given_number, given_text}
use Rattle.job_text.specs.declared.command.Command.{Command}

-- the units of a text in UTF-16
unfoldable pub units_of : List ℕ → List ℕ
units_of text = flat_map encode_utf16 (chars text)

-- the targets of a switch, after those in front
unfoldable pub given_targets_from : List ℕ → List Data → Option (List ℕ)
given_targets_from front [] = Some front
given_targets_from front (d ∷ ds) = given_number (2 ^ 32) d >>= λ target. given_targets_from (front ++ target ∷ []) ds

unfoldable pub given_targets : Data → Option (List ℕ)
given_targets d = given_list d >>= given_targets_from []

-- an operand in module m, after the actor's commands before
unfoldable pub given_operand : ℕ → List Command → OperandKind → Data → Option Operand
given_operand m before kinds.NoOperand d = if is_null d then Some operands.None else None
given_operand m before kinds.U8 d = option_map operands.U8 (given_number (2 ^ 8) d)
given_operand m before kinds.U16 d = option_map operands.U16 (given_number (2 ^ 16) d)
given_operand m before kinds.I8 d = option_map operands.I8 (given_integer (negsuc 0x7f) (pos 0x7f) d)
given_operand m before kinds.I32 d = option_map operands.I32 (given_integer (negsuc 0x7fffffff) (pos 0x7fffffff) d)
given_operand m before kinds.I64 d =
    option_map operands.I64 (given_integer (negsuc 0x7fffffffffffffff) (pos 0x7fffffffffffffff) d)
given_operand m before kinds.R4 d = option_map operands.R4 (given_text d >>= eight_digits)
given_operand m before kinds.R8 d = option_map operands.R8 (given_text d >>= sixteen_digits)
given_operand m before kinds.Token d = option_map (λ t. operands.Tok t.token) (given_token m before d)
given_operand m before kinds.Text d = option_map (λ text. operands.Text (units_of text)) (given_text d)
given_operand m before kinds.ShortBranch d = option_map operands.Target (given_number (2 ^ 32) d)
given_operand m before kinds.Branch d = option_map operands.Target (given_number (2 ^ 32) d)
given_operand m before kinds.Switch d = option_map operands.Switch (given_targets d)
