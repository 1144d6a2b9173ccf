-- The tokens that values name, in order: those of rows, of lists, of signatures, of bodies, and the entry point
-- (ECMA-335 II.22, II.23.2, II.25.3.3.2, II.25.4).
use Rattle.std.specs.Prelude.{Bool, not, List, [], ◌∷◌, ◌++◌, ◌&&◌, Option}
use Rattle.std.specs.List.{find, flat_map, list_any}
use Rattle.cil_base.specs.Token.{Token}
use Rattle.il_code.specs.Body.{Body}
use Rattle.il_code.specs.declared.handler.Handler.{Handler}
use Rattle.il_code.specs.declared.handler.HandlerKind.{HandlerKind}
use Rattle.il_code.specs.declared.handler.HandlerKind.TheVariants.{Typed}
use Rattle.il_code.specs.declared.instr.Instr.{Instr}
use Rattle.il_code.specs.declared.operand.Operand.{Operand}
use Rattle.il_code.specs.declared.operand.Operand.TheVariants.{Tok}
use Rattle.sig_tree.specs.Printed.{tokens as sig_tokens}
use Rattle.node_model.specs.KeyKinds.{is_root_token}
use Rattle.node_model.specs.Keys.{same_token}
use Rattle.node_model.specs.declared.cell.Cell.{Cell}
use Rattle.node_model.specs.declared.cell.Cell.TheVariants.{Ref}
use Rattle.node_model.specs.declared.value.BodyValue.{BodyValue}
use Rattle.node_model.specs.declared.value.BodyValue.TheVariants.{Il}
use Rattle.node_model.specs.declared.value.Value.{Value}
use Rattle.node_model.specs.declared.value.Value.TheVariants as values

abbrev pub cell_tokens : Cell → List Token
cell_tokens (Ref t) = t ∷ []
cell_tokens _ = []

abbrev pub operand_tokens : Operand → List Token
operand_tokens (Tok t) = t ∷ []
operand_tokens _ = []

abbrev pub handler_tokens : HandlerKind → List Token
handler_tokens (Typed t) = t ∷ []
handler_tokens _ = []

-- the locals, the instructions, then the handlers
abbrev pub il_tokens : Body → List Token
il_tokens body =
    body.locals ∷ (flat_map (λ (x : Instr). operand_tokens x.operand) body.code
    ++ flat_map (λ (h : Handler). handler_tokens h.kind) body.handlers)

abbrev pub body_tokens : BodyValue → List Token
body_tokens (Il body) = il_tokens body
body_tokens _ = []

-- a list names its members
abbrev pub value_tokens : Value → List Token
value_tokens (values.Row row) = flat_map cell_tokens row.cells
value_tokens (values.Sig sig) = sig_tokens sig
value_tokens (values.Tokens ts) = ts
value_tokens (values.Body body) = body_tokens body
value_tokens (values.Facts facts) = facts.entry ∷ []
value_tokens _ = []

-- the token is none of these rows; the root names nothing
abbrev pub is_dangling : List Token → Token → Bool
is_dangling rows t = not (is_root_token t) && not (list_any (same_token t) rows)

-- the first token of a value that is none of these rows
abbrev pub dangling_in : List Token → Value → Option Token
dangling_in rows value = find (is_dangling rows) (value_tokens value)
