-- Which bodies can be written: their operands, targets and bounds: ECMA-335 II.25.4 and III.
use Rattle.std.specs.Prelude.{◌≡◌, ◌≤◌, ◌⊎◌, ℕ, List, [], ◌∷◌, length, map, Option, Some, flat_map}
use Rattle.std.specs.List.{AllByRecursion}
use Rattle.il_code.specs.declared.kind.OperandKind as k
use Rattle.il_code.specs.declared.kind.OperandKind.TheVariants as kind
use Rattle.il_code.specs.declared.operand.Operand.{Operand}
use Rattle.il_code.specs.declared.operand.Operand.TheVariants as of
use Rattle.il_code.specs.declared.instr.Instr.{Instr}
use Rattle.il_code.specs.declared.handler.Handler.{Handler}
use Rattle.il_code.specs.Body.{Body}
use Rattle.il_code.specs.Instructions.{kind_of}
use Rattle.il_code.specs.Code.{TargetsBelow, user_text}
use Rattle.il_code.specs.Spelling.{FilterBelow}

-- an operand is one of a code's kind
abbrev pub IsOfKind : Option k.OperandKind → Operand → Type 0
IsOfKind found of.None = found ≡ Some kind.NoOperand
IsOfKind found (of.U8 n) = found ≡ Some kind.U8
IsOfKind found (of.U16 n) = found ≡ Some kind.U16
IsOfKind found (of.I8 z) = found ≡ Some kind.I8
IsOfKind found (of.I32 z) = found ≡ Some kind.I32
IsOfKind found (of.I64 z) = found ≡ Some kind.I64
IsOfKind found (of.R4 n) = found ≡ Some kind.R4
IsOfKind found (of.R8 n) = found ≡ Some kind.R8
IsOfKind found (of.Tok t) = found ≡ Some kind.Token
IsOfKind found (of.Text units) = found ≡ Some kind.Text
IsOfKind found (of.Target t) = (found ≡ Some kind.ShortBranch) ⊎ (found ≡ Some kind.Branch)
IsOfKind found (of.Switch ts) = found ≡ Some kind.Switch

-- the operand of an instruction of n is of its code's kind, and its targets are instructions
pub record IsSound (n : ℕ) (x : Instr) : Type 0 where
  pub kind : IsOfKind (kind_of x.op) x.operand
  pub targets : TargetsBelow n x.operand

-- the bounds of a handler among n instructions are some of them, or the end, and none is before its start
pub record IsSoundHandler (n : ℕ) (h : Handler) : Type 0 where
  pub kind : FilterBelow n h.kind
  pub range : h.try_start ≤ h.try_end
  pub try_end : h.try_end ≤ n
  pub handler : h.start ≤ h.end
  pub end : h.end ≤ n

-- all instructions and handlers of the body are sound
pub record Writable (v : Body) : Type 0 where
  pub code : AllByRecursion (IsSound (length v.code)) v.code
  pub handlers : AllByRecursion (IsSoundHandler (length v.code)) v.handlers

-- the text of an operand, if it is one
abbrev pub operand_texts : Operand → List (List ℕ)
operand_texts (of.Text units) = units ∷ []
operand_texts operand = []

-- the texts of instructions, in order
abbrev pub texts_of : List Instr → List (List ℕ)
texts_of code = flat_map (λ (x : Instr). operand_texts x.operand) code

-- the tokens name the texts of instructions in the heap #US, in order
abbrev pub NameTexts : List ℕ → List ℕ → List Instr → Type 0
NameTexts users texts code = map (user_text users) texts ≡ map Some (texts_of code)
