-- Which instructions and handlers are sound among so many instructions, as tests: ECMA-335 II.25.4.6 and III.1.7.
use Rattle.std.specs.Prelude.{◌&&◌, ℕ, Bool, true, false, Option, Some, nat_lt, nat_le}
use Rattle.std.specs.List.{list_all}
use Rattle.il_code.specs.declared.kind.OperandKind as k
use Rattle.il_code.specs.declared.kind.OperandKind.TheVariants as kind
use Rattle.il_code.specs.declared.operand.Operand.{Operand}
use Rattle.il_code.specs.declared.operand.Operand.TheVariants as of
use Rattle.il_code.specs.declared.instr.Instr.{Instr}
use Rattle.il_code.specs.declared.handler.HandlerKind.{HandlerKind}
use Rattle.il_code.specs.declared.handler.HandlerKind.TheVariants.{Filter}
use Rattle.il_code.specs.declared.handler.Handler.{Handler}
use Rattle.il_code.specs.Instructions.{kind_of}

-- an operand is one of a code's kind; a code without a kind has none
abbrev pub fits_kind : Option k.OperandKind → Operand → Bool
fits_kind (Some kind.NoOperand) of.None = true
fits_kind (Some kind.U8) (of.U8 n) = true
fits_kind (Some kind.U16) (of.U16 n) = true
fits_kind (Some kind.I8) (of.I8 z) = true
fits_kind (Some kind.I32) (of.I32 z) = true
fits_kind (Some kind.I64) (of.I64 z) = true
fits_kind (Some kind.R4) (of.R4 n) = true
fits_kind (Some kind.R8) (of.R8 n) = true
fits_kind (Some kind.Token) (of.Tok t) = true
fits_kind (Some kind.Text) (of.Text units) = true
fits_kind (Some kind.ShortBranch) (of.Target t) = true
fits_kind (Some kind.Branch) (of.Target t) = true
fits_kind (Some kind.Switch) (of.Switch ts) = true
fits_kind found operand = false

-- each target is below a number
abbrev pub targets_fit : ℕ → Operand → Bool
targets_fit n (of.Target t) = nat_lt t n
targets_fit n (of.Switch ts) = list_all (λ t. nat_lt t n) ts
targets_fit n operand = true

-- the operand is of its code's kind, and its targets are instructions
abbrev pub is_sound_instr : ℕ → Instr → Bool
is_sound_instr n x = fits_kind (kind_of x.op) x.operand && targets_fit n x.operand

-- a filter begins at an instruction
abbrev pub filter_fits : ℕ → HandlerKind → Bool
filter_fits n (Filter start) = nat_lt start n
filter_fits n kind = true

-- no end is before its start or past the end, and a filter begins at an instruction
abbrev pub is_sound_handler : ℕ → Handler → Bool
is_sound_handler n h =
    filter_fits n h.kind && nat_le h.try_start h.try_end && nat_le h.try_end n && nat_le h.start h.end && nat_le h.end n
