-- What is read ends within the bytes.
use Rattle.std.proofs.Common.{◌≡◌, ◌==◌, ◌+◌, ◌*◌, ◌<◌, ◌≤◌, ℕ, zero, suc, List, length, Bool, true, false, cond, Option, Some, None, refl, sym, ap, ◌∙◌, subst, arith, nat_le, get_or}
use Rattle.std.specs.Prelude.{option_map}
use Rattle.std.proofs.lemmas.Bool.{lt-ltb}
use Rattle.byteorder.specs.Endian.{little_from}
use Rattle.il_code.specs.declared.kind.OperandKind as k
use Rattle.il_code.specs.declared.kind.OperandKind.TheVariants as kind
use Rattle.il_code.specs.declared.operand.Operand.{Operand}
use Rattle.il_code.specs.declared.instr.Instr.{Instr}
use Rattle.il_code.specs.Instructions.{kind_of}
use Rattle.cil_base.specs.Place.{number_at, number_within}
use Rattle.cil_base.proofs.PlaceLemmas.{IsBytes}
use Rattle.cil_base.specs.Steps.{◌>>=◌}
use Rattle.il_code.specs.Items.{items_at}
use Rattle.il_code.specs.Code.{target_count, operand_width, width_in, code_size, size_of, switch_target_at, operand_at, code_at, instr_of, instr_at}
use Rattle.il_code.proofs.CodeLemmas.{came, mapped, same_some, number-ends, code_size-upto}

targets_within : (b : List ℕ) (after p n : ℕ) (ts : List ℕ) → p ≤ length b → items_at (switch_target_at b after) 4 p n ≡ Some ts → (p + 4 * n ≤ length b) × (length ts ≡ n)
unfolding items_at switch_target_at
targets_within b after p zero ts q h = (omega arith, ap length (sym (same_some _ _ h)))
targets_within b after p (suc n) ts q h =
    let first = came _ _ _ h in
    let number = came _ _ _ first.first in
    let rest = mapped _ _ _ first.after in
    let here = number-ends 4 b p number.by number.first in
    let there = targets_within b after (p + 4) n rest.by here rest.first in
    (omega (arith, there.0), ap length (sym rest.is) ∙ ap suc there.1)

-- an operand that is there ends within the code
operand_within : (users b : List ℕ) (p : ℕ) (kind : k.OperandKind) (o : Operand) → p ≤ length b → operand_at users b p kind ≡ Some o → p + operand_width kind o ≤ length b
unfolding operand_at
operand_within users b p kind.NoOperand o q h = omega arith
operand_within users b p kind.U8 o q h = let n = mapped _ _ _ h in number-ends 1 b p n.by n.first
operand_within users b p kind.U16 o q h = let n = mapped _ _ _ h in number-ends 2 b p n.by n.first
operand_within users b p kind.I8 o q h = let n = mapped _ _ _ h in number-ends 1 b p n.by n.first
operand_within users b p kind.I32 o q h = let n = mapped _ _ _ h in number-ends 4 b p n.by n.first
operand_within users b p kind.I64 o q h = let n = mapped _ _ _ h in number-ends 8 b p n.by n.first
operand_within users b p kind.R4 o q h = let n = mapped _ _ _ h in number-ends 4 b p n.by n.first
operand_within users b p kind.R8 o q h = let n = mapped _ _ _ h in number-ends 8 b p n.by n.first
operand_within users b p kind.Token o q h = let n = mapped _ _ _ h in number-ends 4 b p n.by n.first
operand_within users b p kind.Text o q h = let n = came _ _ _ h in number-ends 4 b p n.by n.first
operand_within users b p kind.ShortBranch o q h = let n = came _ _ _ h in number-ends 1 b p n.by n.first
operand_within users b p kind.Branch o q h = let n = came _ _ _ h in number-ends 4 b p n.by n.first
operand_within users b p kind.Switch o q h =
    let n = came _ _ _ h in
    let ts = mapped _ _ _ n.after in
    let here = number-ends 4 b p n.by n.first in
    let there = targets_within b (p + 4 + 4 * n.by) (p + 4) n.by ts.by here ts.first in
    let count : target_count o ≡ n.by = ap target_count (sym ts.is) ∙ there.1 in
    omega (arith, there.0, count)

code_size-one : (op : ℕ) → op < 0x100 → code_size op ≡ 1
unfolding code_size
code_size-one op h = rw (lt-ltb op 0x100 h) refl

-- a code that is there ends within the bytes
code_within : (b : List ℕ) (p op : ℕ) → IsBytes b → code_at b p ≡ Some op → p + code_size op ≤ length b
unfolding code_at number_within number_at
code_within b p op bytes h =
    let first = came _ _ _ h in
    chosen b p op first.by bytes (number-ends 1 b p first.by first.first) (same_byte b p first.by first.first) (first.by == 0xFE) first.after
  where
    same_byte : (b : List ℕ) (p n : ℕ) → number_within b p 1 ≡ Some n → n ≡ get_or b p 0
    same_byte b p n h = split (nat_le (p + 1) (length b)) h
      where
        split : (t : Bool) → cond t (Some (little_from p 1 b)) None ≡ Some n → n ≡ get_or b p 0
        split true e = let s = same_some _ _ e in omega (arith, s)
        split false e = cc

    chosen : (b : List ℕ) (p op first : ℕ) → IsBytes b → p + 1 ≤ length b → first ≡ get_or b p 0 → (t : Bool) → cond t (option_map (λ second. 0xFE00 + second) (number_within b (p + 1) 1)) (Some first) ≡ Some op → p + code_size op ≤ length b
    chosen b p op first bytes q e true h =
        let second = mapped _ _ _ h in
        let there = number-ends 1 b (p + 1) second.by second.first in
        let size = code_size-upto op in
        omega (arith, there, size.1)
    chosen b p op first bytes q e false h =
        let s = same_some _ _ h in
        let one = code_size-one op (omega (arith, bytes p, e, s)) in
        omega (arith, one)

operand_ends : (users b : List ℕ) (p op : ℕ) (kind : k.OperandKind) (x : Instr) → p + code_size op ≤ length b → kind_of op ≡ Some kind → option_map (instr_of op) (operand_at users b (p + code_size op) kind) ≡ Some x → p + size_of x ≤ length b
unfolding size_of
operand_ends users b p op kind x start e h =
    let operand = mapped (instr_of op) (operand_at users b (p + code_size op) kind) x h in
    let end : p + code_size op + operand_width kind operand.by ≤ length b = operand_within users b (p + code_size op) kind operand.by start operand.first in
    subst (λ (y : Instr). p + (code_size y.op + width_in (kind_of y.op) y.operand) ≤ length b) operand.is
    (subst (λ (o : Option k.OperandKind). p + (code_size op + width_in o operand.by) ≤ length b) (sym e) (reordered p (code_size op) (operand_width kind operand.by) (length b) end))
  where
    reordered : (p a w n : ℕ) → p + a + w ≤ n → p + (a + w) ≤ n
    reordered p a w n h = omega arith

kind_ends : (users b : List ℕ) (p op : ℕ) (x : Instr) → p + code_size op ≤ length b → (kind_of op >>= λ kind. option_map (instr_of op) (operand_at users b (p + code_size op) kind)) ≡ Some x → p + size_of x ≤ length b
kind_ends users b p op x start h =
    let kind = came (kind_of op) (λ kind. option_map (instr_of op) (operand_at users b (p + code_size op) kind)) x h in
    operand_ends users b p op kind.by x start kind.first kind.after

-- an instruction that is there ends within the code
pub instr_within : (users b : List ℕ) (p : ℕ) (x : Instr) → IsBytes b → instr_at users b p ≡ Some x → p + size_of x ≤ length b
unfolding instr_at
instr_within users b p x bytes h =
    let op = came (code_at b p) (λ op. kind_of op >>= λ kind. option_map (instr_of op) (operand_at users b (p + code_size op) kind)) x h in
    kind_ends users b p op.by x (code_within b p op.by bytes op.first) op.after
