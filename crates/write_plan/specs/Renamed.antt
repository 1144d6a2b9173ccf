-- Values with other tokens: one function on tokens, at each token that a value names.
use Rattle.std.specs.Prelude.{map}
use Rattle.cil_base.specs.Token.{Token}
use Rattle.il_code.specs.Body.{Body}
use Rattle.il_code.specs.declared.handler.Handler.{Handler}
use Rattle.il_code.specs.declared.handler.HandlerKind.{HandlerKind}
use Rattle.il_code.specs.declared.handler.HandlerKind.TheVariants as kinds
use Rattle.il_code.specs.declared.instr.Instr.{Instr}
use Rattle.il_code.specs.declared.operand.Operand.{Operand}
use Rattle.il_code.specs.declared.operand.Operand.TheVariants.{Tok}
use Rattle.pe_image.specs.declared.facts.Facts.{Facts}
use Rattle.sig_tree.specs.Printed.{tokens as sig_tokens}
use Rattle.sig_tree.specs.Replaced.{replaced}
use Rattle.node_model.specs.declared.cell.Cell.{Cell}
use Rattle.node_model.specs.declared.cell.Cell.TheVariants.{Ref}
use Rattle.node_model.specs.declared.value.BodyValue.{BodyValue}
use Rattle.node_model.specs.declared.value.BodyValue.TheVariants.{Il}
use Rattle.node_model.specs.declared.value.Value.{Value}
use Rattle.node_model.specs.declared.value.Value.TheVariants as values

module _ (f : Token → Token) where
  abbrev pub cell_renamed : Cell → Cell
  cell_renamed (Ref t) = Ref (f t)
  cell_renamed cell = cell

  abbrev pub operand_renamed : Operand → Operand
  operand_renamed (Tok t) = Tok (f t)
  operand_renamed operand = operand

  abbrev pub instr_renamed : Instr → Instr
  instr_renamed x = record { op = x.op; operand = operand_renamed x.operand }

  abbrev pub handler_kind_renamed : HandlerKind → HandlerKind
  handler_kind_renamed (kinds.Typed t) = kinds.Typed (f t)
  handler_kind_renamed kind = kind

  abbrev pub handler_renamed : Handler → Handler
  handler_renamed h = record {
    kind = handler_kind_renamed h.kind;
    try_start = h.try_start;
    try_end = h.try_end;
    start = h.start;
    end = h.end;
  }

  abbrev pub il_renamed : Body → Body
  il_renamed body = record {
    max_stack = body.max_stack;
    init_locals = body.init_locals;
    locals = f body.locals;
    code = map instr_renamed body.code;
    handlers = map handler_renamed body.handlers;
  }

  abbrev pub body_renamed : BodyValue → BodyValue
  body_renamed (Il body) = Il (il_renamed body)
  body_renamed body = body

  abbrev pub facts_renamed : Facts → Facts
  facts_renamed facts = record facts { entry = f facts.entry }

  abbrev pub renamed : Value → Value
  renamed (values.Row row) = values.Row (record { token = f row.token; cells = map cell_renamed row.cells })
  renamed (values.Sig sig) = values.Sig (replaced sig (map f (sig_tokens sig)))
  renamed (values.Tokens ts) = values.Tokens (map f ts)
  renamed (values.Body body) = values.Body (body_renamed body)
  renamed (values.Facts facts) = values.Facts (facts_renamed facts)
  renamed value = value
