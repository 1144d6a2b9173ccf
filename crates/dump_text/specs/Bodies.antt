-- How a body is printed: its header, its instructions with their numbers, and its handlers (ECMA-335 II.25.4, III).
use Rattle.std.specs.Prelude.{ℕ, List, [], ◌∷◌, ◌++◌, ◌==◌, ◌&&◌, ◌||◌, nat_le, codes, if◌then◌else◌}
use Rattle.std.specs.List.{enumerate_from, flat_map}
use Rattle.std.specs.Fmt.{decimal, signed_decimal}
use Rattle.cil_base.specs.Token.{Token}
use Rattle.il_code.specs.Body.{Body}
use Rattle.il_code.specs.Instructions.{instr_name}
use Rattle.il_code.specs.declared.handler.Handler.{Handler}
use Rattle.il_code.specs.declared.handler.HandlerKind.{HandlerKind}
use Rattle.il_code.specs.declared.handler.HandlerKind.TheVariants as handlers
use Rattle.il_code.specs.declared.instr.Instr.{Instr}
use Rattle.il_code.specs.declared.operand.Operand.{Operand}
use Rattle.il_code.specs.declared.operand.Operand.TheVariants as operands
use Rattle.node_model.specs.KeyKinds.{is_root_token}
use Rattle.node_model.specs.declared.value.BodyValue.{BodyValue}
use Rattle.node_model.specs.declared.value.BodyValue.TheVariants.{NoBody, Native, Il}
use Rattle.sig_tree.specs.Printed.{own_text}
use Rattle.dump_text.specs.Pieces.{flag_text, hex_number, name_or_mark}

-- a unit of UTF-16: 20 to 7E stand as they are, with `\` before `"` and `\`; every other one is `\u` and four digits
abbrev pub unit_text : ℕ → List ℕ
unit_text n =
    if (n == 0x22) || (n == 0x5c) then 0x5c ∷ n ∷ []
    else (if nat_le 0x20 n && nat_le n 0x7e then n ∷ [] else 0x5c ∷ 0x75 ∷ hex_number 2 n)

abbrev pub further_target : ℕ → List ℕ
further_target t = 0x2c ∷ decimal t

-- with a comma between each two
abbrev pub targets_text : List ℕ → List ℕ
targets_text [] = []
targets_text (t ∷ ts) = decimal t ++ flat_map further_target ts

-- what stands behind an instruction's name
abbrev pub operand_text : Operand → List ℕ
operand_text operands.None = []
operand_text (operands.U8 n) = 0x20 ∷ decimal n
operand_text (operands.U16 n) = 0x20 ∷ decimal n
operand_text (operands.I8 z) = 0x20 ∷ signed_decimal z
operand_text (operands.I32 z) = 0x20 ∷ signed_decimal z
operand_text (operands.I64 z) = 0x20 ∷ signed_decimal z
operand_text (operands.R4 bits) = 0x20 ∷ hex_number 4 bits
operand_text (operands.R8 bits) = 0x20 ∷ hex_number 8 bits
operand_text (operands.Tok t) = 0x20 ∷ own_text t
operand_text (operands.Text units) = 0x20 ∷ 0x22 ∷ flat_map unit_text units ++ 0x22 ∷ []
operand_text (operands.Target t) = codes " ->" ++ decimal t
operand_text (operands.Switch ts) = codes " (" ++ targets_text ts ++ codes ")"

unfoldable pub op_text : ℕ → List ℕ
op_text op = name_or_mark (instr_name op)

-- an instruction; it comes with its number
abbrev pub instr_text : ℕ × Instr → List ℕ
instr_text x = codes " [" ++ decimal x.0 ++ codes "] " ++ op_text x.1.op ++ operand_text x.1.operand

abbrev pub handler_word : HandlerKind → List ℕ
handler_word (handlers.Typed t) = codes "typed"
handler_word (handlers.Filter start) = codes "filter"
handler_word handlers.Finally = codes "finally"
handler_word handlers.Fault = codes "fault"

-- what stands behind the bounds of a handler
abbrev pub handler_end : HandlerKind → List ℕ
handler_end (handlers.Typed t) = 0x20 ∷ own_text t
handler_end (handlers.Filter start) = 0x20 ∷ decimal start
handler_end handlers.Finally = []
handler_end handlers.Fault = []

abbrev pub bounds_text : Handler → List ℕ
bounds_text h =
    0x20 ∷ decimal h.try_start ++ 0x20 ∷ decimal h.try_end ++ 0x20 ∷ decimal h.start ++ 0x20 ∷ decimal h.end

abbrev pub handler_text : Handler → List ℕ
handler_text h = codes " {" ++ handler_word h.kind ++ bounds_text h ++ handler_end h.kind ++ codes "}"

abbrev pub locals_text : Token → List ℕ
locals_text t = if is_root_token t then codes "none" else own_text t

abbrev pub body_head : Body → List ℕ
body_head b =
    codes " stack=" ++ decimal b.max_stack ++ codes " init=" ++ flag_text b.init_locals
    ++ codes " locals=" ++ locals_text b.locals

abbrev pub il_text : Body → List ℕ
il_text b = body_head b ++ flat_map instr_text (enumerate_from 0 b.code) ++ flat_map handler_text b.handlers

-- what stands behind the key of a body
abbrev pub body_text : BodyValue → List ℕ
body_text NoBody = codes " none"
body_text (Native rva) = codes " native " ++ decimal rva
body_text (Il body) = il_text body
