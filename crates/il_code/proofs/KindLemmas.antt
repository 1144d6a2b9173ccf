-- The test of an operand's kind says what the relation says.
use Rattle.std.proofs.Common.{◌≡◌, Bool, true, false, Option, refl, sym, arith, inl, inr}
use Rattle.std.specs.Prelude.{◌↔◌, IsTrue}
use Rattle.il_code.specs.declared.kind.OperandKind as k
use Rattle.il_code.specs.declared.operand.Operand.{Operand}
use Rattle.il_code.specs.declared.operand.Operand.TheVariants as of
use Rattle.il_code.specs.Sound.{fits_kind}
use Rattle.il_code.specs.Writable.{IsOfKind}

pub of-kind : (found : Option k.OperandKind) (o : Operand) → fits_kind found o ≡ true → IsOfKind found o
of-kind found of.None h = grind arith
of-kind found (of.U8 n) h = grind arith
of-kind found (of.U16 n) h = grind arith
of-kind found (of.I8 z) h = grind arith
of-kind found (of.I32 z) h = grind arith
of-kind found (of.I64 z) h = grind arith
of-kind found (of.R4 n) h = grind arith
of-kind found (of.R8 n) h = grind arith
of-kind found (of.Tok t) h = grind arith
of-kind found (of.Text units) h = grind arith
of-kind found (of.Target t) h = grind arith
of-kind found (of.Switch ts) h = grind arith

pub fits-kind : (found : Option k.OperandKind) (o : Operand) → IsOfKind found o → fits_kind found o ≡ true
fits-kind found of.None h = rw h refl
fits-kind found (of.U8 n) h = rw h refl
fits-kind found (of.U16 n) h = rw h refl
fits-kind found (of.I8 z) h = rw h refl
fits-kind found (of.I32 z) h = rw h refl
fits-kind found (of.I64 z) h = rw h refl
fits-kind found (of.R4 n) h = rw h refl
fits-kind found (of.R8 n) h = rw h refl
fits-kind found (of.Tok t) h = rw h refl
fits-kind found (of.Text units) h = rw h refl
fits-kind found (of.Target t) (inl h) = rw h refl
fits-kind found (of.Target t) (inr h) = rw h refl
fits-kind found (of.Switch ts) h = rw h refl

-- a test that answers as the relation does answers as the definition
pub fits_by : (found : Option k.OperandKind) (o : Operand) (b : Bool) → IsTrue b ↔ IsOfKind found o → b ≡ fits_kind found o
fits_by found o b same = decided b (fits_kind found o) (λ h. fits-kind found o (same.0 h)) (λ h. same.1 (of-kind found o h))
  where
    decided : (b c : Bool) → (b ≡ true → c ≡ true) → (c ≡ true → b ≡ true) → b ≡ c
    decided true c there back = sym (there refl)
    decided false true there back = back refl
    decided false false there back = refl
