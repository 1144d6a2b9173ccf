-- A method's body, as a value: ECMA-335 II.25.4.
use Rattle.std.specs.Prelude.{ℕ, Bool, List}
use Rattle.cil_base.specs.Token.{Token}
use Rattle.il_code.specs.declared.instr.Instr.{Instr}
use Rattle.il_code.specs.declared.handler.Handler.{Handler}

pub record Body : Type 0 where
  pub max_stack : ℕ
  pub init_locals : Bool
  pub locals : Token
  pub code : List Instr
  pub handlers : List Handler
