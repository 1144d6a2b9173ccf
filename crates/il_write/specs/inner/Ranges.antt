-- The numbers that the types of the code hold: the encoder's own words. No public contract cites them.
use Rattle.std.specs.Prelude.{◌<◌, ◌^◌, FitsSigned}
use Rattle.std.specs.Int.{w8, w32, w64}
use Rattle.std.specs.List.{AllByRecursion}
use Rattle.cil_base.specs.Token.{Token}
use Rattle.il_code.specs.declared.operand.Operand.{Operand}
use Rattle.il_code.specs.declared.operand.Operand.TheVariants as of
use Rattle.il_code.specs.declared.instr.Instr.{Instr}
use Rattle.il_code.specs.declared.handler.Handler.{Handler}
use Rattle.il_code.specs.declared.handler.HandlerKind.{HandlerKind}
use Rattle.il_code.specs.declared.handler.HandlerKind.TheVariants.{Typed}
use Rattle.il_code.specs.Body.{Body}

-- a token of four bytes
pub record TokenFits (t : Token) : Type 0 where
  pub table : t.table < 2 ^ 8
  pub rid : t.rid < 2 ^ 24

-- an operand's number fits the bytes that its kind has
abbrev pub OperandFits : Operand → Type 0
OperandFits (of.U8 n) = n < 2 ^ 8
OperandFits (of.U16 n) = n < 2 ^ 16
OperandFits (of.I8 z) = FitsSigned w8 z
OperandFits (of.I32 z) = FitsSigned w32 z
OperandFits (of.I64 z) = FitsSigned w64 z
OperandFits (of.R4 n) = n < 2 ^ 32
OperandFits (of.R8 n) = n < 2 ^ 64
OperandFits (of.Tok t) = TokenFits t
OperandFits operand = Unit {0}

-- a handler's type fits four bytes
abbrev pub KindFits : HandlerKind → Type 0
KindFits (Typed t) = TokenFits t
KindFits kind = Unit {0}

-- an instruction's operand does
abbrev pub InstrFits : Instr → Type 0
InstrFits x = OperandFits x.operand

-- a handler's type does
abbrev pub HandlerFits : Handler → Type 0
HandlerFits h = KindFits h.kind

-- the numbers of a body
pub record BodyFits (v : Body) : Type 0 where
  pub max_stack : v.max_stack < 2 ^ 16
  pub locals : TokenFits v.locals
  pub code : AllByRecursion InstrFits v.code
  pub handlers : AllByRecursion HandlerFits v.handlers
