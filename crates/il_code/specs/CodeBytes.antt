-- The bytes that instructions are written as: ECMA-335 III.1.7 and VI.C.2. The lowest byte of each number comes first.
use Rattle.std.specs.Prelude.{ℕ, ◌+◌, ◌-◌, ◌/◌, ◌%◌, ◌^◌, Bool, true, false, List, [], ◌∷◌, ◌++◌, length, take}
use Rattle.std.specs.Prelude.{Option, Some}
use Rattle.std.specs.Prelude.{nat_lt, slice_index, if◌then◌else◌, flat_map}
use Rattle.std.specs.Int.{cast_unsigned, w8, w32, w64}
use Rattle.std.specs.List.{enumerate_from}
use Rattle.byteorder.specs.Endian.{little_bytes}
use Rattle.cil_base.specs.Token.{token_number}
use Rattle.il_code.specs.declared.kind.OperandKind as k
use Rattle.il_code.specs.declared.kind.OperandKind.TheVariants as kind
use Rattle.il_code.specs.declared.operand.Operand.{Operand}
use Rattle.il_code.specs.declared.operand.Operand.TheVariants as of
use Rattle.il_code.specs.declared.instr.Instr.{Instr}
use Rattle.il_code.specs.Instructions.{kind_of}
use Rattle.il_code.specs.Writable.{texts_of}

-- the distance from one place to another in two's complement, as a number below m
abbrev pub distance : ℕ → ℕ → ℕ → ℕ
distance m after place = (m + place - after) % m

-- a target at a place, from the place after its instruction: in one byte where it is short, in four otherwise
abbrev pub target_bytes : Bool → ℕ → ℕ → List ℕ
target_bytes true after place = little_bytes 1 (distance (2 ^ 8) after place)
target_bytes false after place = little_bytes 4 (distance (2 ^ 32) after place)

-- an operand, by the places of instructions, the place after its own, the token of its text, and whether its target is
-- short
unfoldable pub operand_bytes : (ℕ → ℕ) → ℕ → ℕ → Bool → Operand → List ℕ
operand_bytes place after token short of.None = []
operand_bytes place after token short (of.U8 n) = little_bytes 1 n
operand_bytes place after token short (of.U16 n) = little_bytes 2 n
operand_bytes place after token short (of.I8 z) = little_bytes 1 (cast_unsigned w8 z)
operand_bytes place after token short (of.I32 z) = little_bytes 4 (cast_unsigned w32 z)
operand_bytes place after token short (of.I64 z) = little_bytes 8 (cast_unsigned w64 z)
operand_bytes place after token short (of.R4 n) = little_bytes 4 n
operand_bytes place after token short (of.R8 n) = little_bytes 8 n
operand_bytes place after token short (of.Tok t) = little_bytes 4 (token_number t)
operand_bytes place after token short (of.Text units) = little_bytes 4 token
operand_bytes place after token short (of.Target t) = target_bytes short after (place t)
operand_bytes place after token short (of.Switch ts) = little_bytes 4 (length ts)
    ++ flat_map (λ t. target_bytes false after (place t)) ts

-- a code: one byte, or FE and a second
unfoldable pub op_bytes : ℕ → List ℕ
op_bytes op = if nat_lt op 0x100 then op ∷ [] else op / 2 ^ 8 ∷ op % 2 ^ 8 ∷ []

-- a code has a target of one byte
abbrev pub is_short : Option k.OperandKind → Bool
is_short (Some kind.ShortBranch) = true
is_short found = false

-- an instruction: its code and its operand
unfoldable pub instr_bytes : (ℕ → ℕ) → ℕ → ℕ → Instr → List ℕ
instr_bytes place after token x = op_bytes x.op ++ operand_bytes place after token (is_short (kind_of x.op)) x.operand

-- the token of the text of instruction number i, where it has one: tokens stand in the order of the texts
abbrev pub token_at : List ℕ → List Instr → ℕ → ℕ
token_at texts code i = slice_index texts (length (texts_of (take i code)))

-- instruction number e.0 among others
abbrev pub numbered_bytes : (ℕ → ℕ) → List ℕ → List Instr → ℕ × Instr → List ℕ
numbered_bytes place texts code e = instr_bytes place (place (e.0 + 1)) (token_at texts code e.0) e.1

-- the instructions one after the other
unfoldable pub code_bytes : (ℕ → ℕ) → List ℕ → List Instr → List ℕ
code_bytes place texts code = flat_map (numbered_bytes place texts code) (enumerate_from 0 code)
