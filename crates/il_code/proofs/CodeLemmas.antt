-- Instructions one after the other.
use Rattle.std.proofs.Common.{◌≡◌, ◌+◌, ◌≤◌, ℕ, List, [], ◌∷◌, length, Bool, true, false, cond, Option, Some, None, refl, arith, nat_lt, nat_le}
use Rattle.std.specs.Prelude.{option_map}
use Rattle.std.proofs.lemmas.Bool.Decides.{nat_tests}
use Rattle.byteorder.specs.Endian.{little_from}
use Rattle.il_code.specs.declared.instr.Instr.{Instr}
use Rattle.cil_base.specs.Place.{number_at, number_within}
use Rattle.cil_base.specs.Steps.{◌>>=◌}
use Rattle.il_code.specs.Code.{code_size, size_of, Stand}

-- a step that came to something
pub record Came {A B : Type 0} (o : Option A) (f : A → Option B) (y : B) : Type 0 where
  pub by : A
  pub first : o ≡ Some by
  pub after : f by ≡ Some y

pub came : {A B : Type 0} (o : Option A) (f : A → Option B) (y : B) → (o >>= f) ≡ Some y → Came o f y
came None f y h = absurd (nothing h)
  where
    nothing : {B : Type 0} {y : B} → None ≡ Some y → ⊥
    nothing h = cc
came (Some x) f y h = record { by = x; first = refl; after = h }

pub record Mapped {A B : Type 0} (f : A → B) (o : Option A) (y : B) : Type 0 where
  pub by : A
  pub first : o ≡ Some by
  pub is : f by ≡ y

pub same_some : {A : Type 0} (x y : A) → Some x ≡ Some y → x ≡ y
same_some x y h = cc

pub mapped : {A B : Type 0} (f : A → B) (o : Option A) (y : B) → option_map f o ≡ Some y → Mapped f o y
mapped f None y h = absurd (nothing h)
  where
    nothing : {B : Type 0} {y : B} → None ≡ Some y → ⊥
    nothing h = cc
mapped f (Some x) y h = record { by = x; first = refl; is = same_some _ _ h }

-- a number that is there ends within the bytes
pub number-ends : (w : ℕ) (b : List ℕ) (p n : ℕ) → number_within b p w ≡ Some n → p + w ≤ length b
unfolding number_within number_at
number-ends w b p n h = inside (nat_le (p + w) (length b)) refl h
  where
    inside : (t : Bool) → nat_le (p + w) (length b) ≡ t → cond t (Some (little_from p w b)) None ≡ Some n → p + w ≤ length b
    inside true e h = grind (arith, nat_tests)
    inside false e h = cc

-- a code takes one byte or two
pub code_size-upto : (op : ℕ) → (1 ≤ code_size op) × (code_size op ≤ 2)
unfolding code_size
code_size-upto op = sized (nat_lt op 0x100)
  where
    sized : (t : Bool) → (1 ≤ cond t 1 2) × (cond t 1 2 ≤ 2)
    sized true = (omega arith, omega arith)
    sized false = (omega arith, omega arith)

-- an instruction takes a byte or more
pub size_of-pos : (x : Instr) → 1 ≤ size_of x
unfolding size_of
size_of-pos x = let size = code_size-upto x.op in omega (arith, size.0)

-- instructions are no more than the bytes

pub stand-length : (users b : List ℕ) (p : ℕ) (xs : List Instr) → Stand users b p xs → length xs + p ≤ length b
stand-length users b p [] s = omega (arith, s)
stand-length users b p (x ∷ xs) s = let ih = stand-length users b (p + size_of x) xs s.1 in let pos = size_of-pos x in omega (arith, ih, pos)
