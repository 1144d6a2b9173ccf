-- The instructions that were read, and those to come.
use Rattle.std.proofs.Common.{◌≡◌, ◌+◌, ◌-◌, ◌<◌, ◌≤◌, ◌++◌, ℕ, suc, List, [], ◌∷◌, length, Option, Some, None, refl, sym, ap, ◌∙◌, arith, append_assoc, length-append}
use Rattle.std.specs.Prelude.{option_map}
use Rattle.std.proofs.lemmas.List.{append-nil}
use Rattle.il_code.specs.declared.instr.Instr.{Instr}
use Rattle.il_code.specs.Code.{size_of, instr_at}
use Rattle.il_code.specs.Decoded.{instrs_from, code_in}
use Rattle.il_code.specs.Numbering.{each}
use Rattle.il_code.proofs.CodeLemmas.{came, mapped, same_some, size_of-pos}
use Rattle.il_code.proofs.DecodedLemmas.{instrs-ended, instrs-step}
use Rattle.il_read.proofs.ItemLemmas.{with_front}

-- the instructions up to a place are read; no more can follow than bytes are left
pub record Read (users b : List ℕ) (front : List Instr) (p : ℕ) : Type 0 where
  pub within : p ≤ length b
  pub few : length front ≤ p
  pub whole : with_front front (instrs_from users b (length b - length front) p) ≡ code_in users b

pub read-start : (users b : List ℕ) → Read users b [] 0
unfolding code_in
read-start users b = record { within = omega arith; few = omega arith; whole = unfronted (instrs_from users b (length b - 0) 0) ∙ ap (λ n. instrs_from users b n 0) none_gone }
  where
    none_gone : length b - 0 ≡ length b
    none_gone = omega arith

    unfronted : (o : Option (List Instr)) → with_front [] o ≡ o
    unfronted None = refl
    unfronted (Some xs) = refl

front-longer : (front : List Instr) (x : Instr) (o : Option (List Instr)) → with_front front (option_map (λ xs. x ∷ xs) o) ≡ with_front (front ++ x ∷ []) o
front-longer front x None = refl
front-longer front x (Some xs) = ap Some (sym (append_assoc front (x ∷ []) xs))

-- one more is read
pub read-more : (users b : List ℕ) (front : List Instr) (p : ℕ) (x : Instr) → p < length b → p + size_of x ≤ length b → instr_at users b p ≡ Some x → Read users b front p → Read users b (front ++ x ∷ []) (p + size_of x)
read-more users b front p x q end h r =
    let longer : length (front ++ x ∷ []) ≡ length front + 1 = length-append front (x ∷ []) in
    let left = length b - length (front ++ x ∷ []) in
    let one : length b - length front ≡ suc left = omega (arith, longer, r.few, q) in
    record {
      within = end;
      few = omega (arith, longer, r.few, size_of-pos x);
      whole = sym (front-longer front x (instrs_from users b left (p + size_of x))) ∙ ap (with_front front) (sym (ap (λ n. instrs_from users b n p) one ∙ instrs-step users b left p (Some x) q h)) ∙ r.whole;
    }

-- no instruction stands at the place, so the bytes are no code
pub read-stop : (users b : List ℕ) (front : List Instr) (p : ℕ) → p < length b → instr_at users b p ≡ None → Read users b front p → None ≡ code_in users b
read-stop users b front p q h r =
    let left = length b - length front - 1 in
    let one : length b - length front ≡ suc left = omega (arith, r.few, q) in
    ap (with_front front) (sym (ap (λ n. instrs_from users b n p) one ∙ instrs-step users b left p None q h)) ∙ r.whole

-- the end is reached
pub read-over : (users b : List ℕ) (front : List Instr) (p : ℕ) → length b ≤ p → Read users b front p → Some front ≡ code_in users b
read-over users b front p q r =
    ap Some (sym (append-nil front))
    ∙ ap (with_front front) (sym (instrs-ended users b (length b - length front) p (omega (arith, q, r.within))))
    ∙ r.whole

-- there are as many numbers as places
pub each-length : {A : Type 0} (f : A → Option A) (xs ys : List A) → each f xs ≡ Some ys → length ys ≡ length xs
unfolding each
each-length f [] ys h = ap length (sym (same_some [] ys h))
each-length f (x ∷ xs) ys h =
    let y = came (f x) (λ y. option_map (λ ys. y ∷ ys) (each f xs)) ys h in
    let rest = mapped (λ ys. y.by ∷ ys) (each f xs) ys y.after in
    ap length (sym rest.is) ∙ ap suc (each-length f xs rest.by rest.first)
