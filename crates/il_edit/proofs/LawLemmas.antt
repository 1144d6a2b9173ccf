-- Taking out what was put in.
use Rattle.std.proofs.Common.{◌≡◌, ◌+◌, ◌<◌, ◌≤◌, inl, inr, ℕ, zero, suc, List, [], ◌∷◌, length, map, refl, ap, ◌∙◌, arith}
use Rattle.std.specs.Prelude.{insert, remove}
use Rattle.std.proofs.lemmas.List.{length-map}
use Rattle.std.proofs.lemmas.Bool.{cases_lt}
use Rattle.il_code.specs.Body.{Body}
use Rattle.il_code.specs.declared.instr.Instr.{Instr}
use Rattle.il_code.specs.Code.{placed}
use Rattle.il_code.specs.Edited.{body_of_parts, lowered, raised, with_instr, without_instr}
use Rattle.il_code.specs.Spelling.{placed_handler}
use Rattle.il_edit.specs.Laws.{RemovesWhatWasInserted}
use Rattle.il_edit.proofs.ShiftLemmas.{all-back, handler-back, instr-back, lowered-raised}

out-of-in : {A B : Type 0} (f : A → B) (xs : List A) (at : ℕ) (x : A) → at ≤ length xs → remove (map f (insert xs at x)) at ≡ map f xs
out-of-in f xs zero x h = refl
out-of-in f [] (suc at) x h = absurd (omega (arith, h))
out-of-in f (y ∷ xs) (suc at) x h = ap (λ r. f y ∷ r) (out-of-in f xs at x (omega (arith, h)))

back : (at : ℕ) (x : Instr) (v : Body) → at ≤ length v.code → without_instr at (with_instr at x v) ≡ v
unfolding with_instr without_instr
back at x v h =
    let mapped = length-map v.code (placed (raised at)) in
    let code = out-of-in (placed (lowered at)) (map (placed (raised at)) v.code) at x (omega (arith, mapped, h)) ∙ all-back (placed (raised at)) (placed (lowered at)) (λ y. instr-back (raised at) (lowered at) (lowered-raised at) y) v.code in
    let hs = all-back (placed_handler (raised at)) (placed_handler (lowered at)) (λ y. handler-back (raised at) (lowered at) (lowered-raised at) y) v.handlers in
    ap (λ c. body_of_parts v c (map (placed_handler (lowered at)) (map (placed_handler (raised at)) v.handlers))) code ∙ ap (λ c. body_of_parts v v.code c) hs

-- behind the last place there is nothing to take out

longer : {A : Type 0} (xs : List A) (at : ℕ) (x : A) → length (insert xs at x) ≡ length xs + 1
longer xs zero x = omega arith
longer [] (suc at) x = omega arith
longer (y ∷ xs) (suc at) x = let ih = longer xs at x in omega (arith, ih)

past : {A : Type 0} (xs : List A) (at : ℕ) → length xs ≤ at → remove xs at ≡ xs
past [] zero h = refl
past [] (suc at) h = refl
past (y ∷ xs) zero h = absurd (omega (arith, h))
past (y ∷ xs) (suc at) h = ap (λ r. y ∷ r) (past xs at (omega (arith, h)))

within : (at : ℕ) (x : Instr) (v : Body) → without_instr at (with_instr at x v) ≡ v → at ≤ length v.code
unfolding with_instr without_instr
within at x v e = elim (cases_lt (length v.code) at) [
  | inl beyond ↦ absurd (too_long beyond)
  | inr inside ↦ inside
]
  where
    too_long : length v.code < at → ⊥
    too_long beyond =
        let raw : List Instr = insert (map (placed (raised at)) v.code) at x in
        let all : List Instr = map (placed (lowered at)) raw in
        let one = longer (map (placed (raised at)) v.code) at x in
        let mapped = length-map v.code (placed (raised at)) in
        let lowered_too = length-map raw (placed (lowered at)) in
        let nothing_gone = ap length (past all at (omega (arith, beyond, one, mapped, lowered_too))) in
        let same : length (remove all at) ≡ length v.code = ap (λ (b : Body). length b.code) e in
        omega (arith, same, nothing_gone, one, mapped, lowered_too)

pub inserted-removed : RemovesWhatWasInserted
inserted-removed at x v = (within at x v, back at x v)
