-- Instructions one after the other: ECMA-335 III.1.7 and VI.C.2.
use Rattle.std.specs.Prelude.{◌≡◌, ◌==◌, ℕ, ◌+◌, ◌*◌, ◌/◌, ◌%◌, ◌^◌, ◌<◌, List, [], ◌∷◌, length, map, take, Option}
use Rattle.std.specs.Prelude.{Some, None, nat_lt, if◌then◌else◌, option_map}
use Rattle.std.specs.Int.{cast_signed, w8, w32, w64}
use Rattle.std.specs.List.{AllByRecursion, sum_by, range_with_len}
use Rattle.il_code.specs.declared.kind.OperandKind as k
use Rattle.il_code.specs.declared.kind.OperandKind.TheVariants as kind
use Rattle.il_code.specs.declared.operand.Operand.{Operand}
use Rattle.il_code.specs.declared.operand.Operand.TheVariants as of
use Rattle.il_code.specs.declared.instr.Instr.{Instr}
use Rattle.cil_base.specs.Heaps.{units}
use Rattle.il_code.specs.Instructions.{kind_of}
use Rattle.cil_base.specs.Place.{number_at, number_within}
use Rattle.cil_base.specs.Steps.{◌>>=◌}
use Rattle.cil_base.specs.Token.{token_from}
use Rattle.il_code.specs.Items.{items_at}
use Rattle.il_code.specs.Targets.{target_at}

-- how many targets an operand has
abbrev pub target_count : Operand → ℕ
target_count (of.Switch targets) = length targets
target_count _ = 0

-- how many bytes an operand of a kind takes
abbrev pub operand_width : k.OperandKind → Operand → ℕ
operand_width kind.NoOperand operand = 0
operand_width kind.U8 operand = 1
operand_width kind.U16 operand = 2
operand_width kind.I8 operand = 1
operand_width kind.I32 operand = 4
operand_width kind.I64 operand = 8
operand_width kind.R4 operand = 4
operand_width kind.R8 operand = 8
operand_width kind.Token operand = 4
operand_width kind.Text operand = 4
operand_width kind.ShortBranch operand = 1
operand_width kind.Branch operand = 4
operand_width kind.Switch operand = 4 + 4 * target_count operand

-- how many bytes a code takes
unfoldable pub code_size : ℕ → ℕ
code_size op = if nat_lt op 0x100 then 1 else 2

abbrev pub width_in : Option k.OperandKind → Operand → ℕ
width_in None operand = 0
width_in (Some kind) operand = operand_width kind operand

-- how many bytes an instruction takes
unfoldable pub size_of : Instr → ℕ
size_of i = code_size i.op + width_in (kind_of i.op) i.operand

-- where an instruction stands: after those before it
unfoldable pub at : List Instr → ℕ → ℕ
at code i = sum_by size_of (take i code)

-- UTF-16 units, the lower byte of each first
unfoldable pub utf16 : List ℕ → List ℕ
utf16 bytes = map (λ i. number_at bytes (2 * i) 2) (range_with_len 0 (length bytes / 2))

-- the text of a user string's token, which is of table 70
unfoldable pub user_text : List ℕ → ℕ → Option (List ℕ)
user_text users n = if n / 2 ^ 24 == 0x70 then option_map utf16 (units users (n % 2 ^ 24)) else None

-- one target of a switch, in four bytes, counted from the place after the switch
unfoldable pub switch_target_at : List ℕ → ℕ → ℕ → Option ℕ
switch_target_at b after p = number_within b p 4 >>= λ n. target_at b (2 ^ 31) after n

-- the operand of a kind that stands at a place of the code's bytes; its targets are places
unfoldable pub operand_at : List ℕ → List ℕ → ℕ → k.OperandKind → Option Operand
operand_at users b p kind.NoOperand = Some of.None
operand_at users b p kind.U8 = option_map of.U8 (number_within b p 1)
operand_at users b p kind.U16 = option_map of.U16 (number_within b p 2)
operand_at users b p kind.I8 = option_map (λ n. of.I8 (cast_signed w8 n)) (number_within b p 1)
operand_at users b p kind.I32 = option_map (λ n. of.I32 (cast_signed w32 n)) (number_within b p 4)
operand_at users b p kind.I64 = option_map (λ n. of.I64 (cast_signed w64 n)) (number_within b p 8)
operand_at users b p kind.R4 = option_map of.R4 (number_within b p 4)
operand_at users b p kind.R8 = option_map of.R8 (number_within b p 8)
operand_at users b p kind.Token = option_map (λ n. of.Tok (token_from n)) (number_within b p 4)
operand_at users b p kind.Text = number_within b p 4 >>= λ n. option_map of.Text (user_text users n)
operand_at users b p kind.ShortBranch = number_within b p 1 >>= λ n.
    option_map of.Target (target_at b (2 ^ 7) (p + 1) n)
operand_at users b p kind.Branch = number_within b p 4 >>= λ n. option_map of.Target (target_at b (2 ^ 31) (p + 4) n)
operand_at users b p kind.Switch = number_within b p 4 >>= λ count.
    option_map of.Switch (items_at (switch_target_at b (p + 4 + 4 * count)) 4 (p + 4) count)

-- the code at a place: one byte, or FE and a second
unfoldable pub code_at : List ℕ → ℕ → Option ℕ
code_at b p =
    number_within b p 1 >>= λ first.
    if first == 0xFE then option_map (λ second. 0xFE00 + second) (number_within b (p + 1) 1) else Some first

-- the instruction of a code and an operand
abbrev pub instr_of : ℕ → Operand → Instr
instr_of op operand = record { op = op; operand = operand }

-- the instruction that stands at a place of the code's bytes; its targets are places
unfoldable pub instr_at : List ℕ → List ℕ → ℕ → Option Instr
instr_at users b p = code_at b p >>= λ op. kind_of op >>= λ kind.
    option_map (instr_of op) (operand_at users b (p + code_size op) kind)

-- the instructions stand in the code's bytes from a place to their end, one after the other
abbrev pub Stand : List ℕ → List ℕ → ℕ → List Instr → Type 0
Stand users b p [] = p ≡ length b
Stand users b p (x ∷ xs) = (instr_at users b p ≡ Some x) × Stand users b (p + size_of x) xs

-- an operand with the places of its targets
abbrev pub placed_operand : (ℕ → ℕ) → Operand → Operand
placed_operand place (of.Target t) = of.Target (place t)
placed_operand place (of.Switch targets) = of.Switch (map place targets)
placed_operand place operand = operand

-- an instruction with the places of its targets
abbrev pub placed : (ℕ → ℕ) → Instr → Instr
placed place x = record { op = x.op; operand = placed_operand place x.operand }

-- each target is below a number
abbrev pub TargetsBelow : ℕ → Operand → Type 0
TargetsBelow n (of.Target t) = t < n
TargetsBelow n (of.Switch targets) = AllByRecursion (λ t. t < n) targets
TargetsBelow n _ = Unit {0}
