-- The body that is found is the one that is spelled.
use Rattle.std.proofs.Common.{◌≡◌, ◌==◌, ◌+◌, ◌<◌, ◌≤◌, ℕ, zero, suc, List, [], ◌∷◌, length, map, take, drop, Bool, true, false, cond, Option, Some, None, refl, ap, ◌∙◌, subst, arith, nat_le}
use Rattle.std.specs.Prelude.{option_map}
use Rattle.std.proofs.lemmas.Bool.{lt-ltb, ltb-true}
use Rattle.std.proofs.lemmas.Bool.Decides.{nat_tests}
use Rattle.il_code.specs.declared.instr.Instr.{Instr}
use Rattle.il_code.specs.Body.{Body}
use Rattle.il_code.specs.Code.{at, size_of, instr_at, placed, Stand}
use Rattle.il_code.specs.Decoded.{instrs_from, code_in, body_with, numbered_body, body_after, body_at, SpellsAlone}
use Rattle.cil_base.specs.Steps.{◌>>=◌}
use Rattle.il_code.specs.Numbering.{places, each, numbered_instr, handlers_after}
use Rattle.il_code.specs.Sections.{header_at}
use Rattle.il_code.specs.Spelling.{Spells}
use Rattle.il_code.proofs.CodeLemmas.{came, mapped, same_some, stand-length}
use Rattle.il_code.proofs.SpellingLemmas.{body-found, body-known, body-is}

-- a test that was passed
let_through : {A : Type 0} (t : Bool) (o : Option A) (y : A) → cond t o None ≡ Some y → (t ≡ true) × (o ≡ Some y)
let_through true o y h = (refl, h)
let_through false o y h = absurd (nothing h)
  where
    nothing : None ≡ Some y → ⊥
    nothing h = cc

-- the instructions that are found stand in the bytes

at_end : (users b : List ℕ) (p : ℕ) (xs : List Instr) → (p == length b) ≡ true → Some [] ≡ Some xs → Stand users b p xs
at_end users b p xs e h = subst (Stand users b p) (same_some _ _ h) (grind (arith, nat_tests))

found_by : (users b : List ℕ) (p : ℕ) (xs : List Instr) (more : Option (List Instr)) → (more ≡ Some xs → Stand users b p xs) → (t : Bool) → (p == length b) ≡ t → cond t (Some []) more ≡ Some xs → Stand users b p xs
found_by users b p xs more f true e h = at_end users b p xs e h
found_by users b p xs more f false e h = f h

instrs-found : (users b : List ℕ) (left p : ℕ) (xs : List Instr) → instrs_from users b left p ≡ Some xs → Stand users b p xs
unfolding instrs_from
instrs-found users b zero p xs h = found_by users b p xs None (λ e. absurd (nothing e)) (p == length b) refl h
  where
    nothing : None ≡ Some xs → ⊥
    nothing h = cc
instrs-found users b (suc left) p xs h =
    found_by users b p xs _ (λ e.
    let x = came (instr_at users b p) (λ x. option_map (λ ys. x ∷ ys) (instrs_from users b left (p + size_of x))) xs e in
    let rest = mapped (λ ys. x.by ∷ ys) (instrs_from users b left (p + size_of x.by)) xs x.after in
    subst (Stand users b p) rest.is (x.first, instrs-found users b left (p + size_of x.by) rest.by rest.first)) (p == length b) refl h

-- and those that stand in them are found

same_test : (a b : ℕ) → a ≡ b → (a == b) ≡ true
same_test a b e = grind (arith, nat_tests)

less_test : (a b : ℕ) → a < b → (a == b) ≡ false
less_test a b e = grind (arith, nat_tests)

-- the bytes end at the place
pub instrs-ended : (users b : List ℕ) (left p : ℕ) → p ≡ length b → instrs_from users b left p ≡ Some []
unfolding instrs_from
instrs-ended users b zero p e = rw (same_test p (length b) e) refl
instrs-ended users b (suc left) p e = rw (same_test p (length b) e) refl

-- one instruction, or none
pub instrs-step : (users b : List ℕ) (left p : ℕ) (o : Option Instr) → p < length b → instr_at users b p ≡ o
    → instrs_from users b (suc left) p ≡ (o >>= λ x. option_map (λ xs. x ∷ xs) (instrs_from users b left (p + size_of x)))
unfolding instrs_from
instrs-step users b left p o q h = rw (less_test p (length b) q, h) refl

instrs-only : (users b : List ℕ) (left p : ℕ) (xs : List Instr) → length xs ≤ left → Stand users b p xs → instrs_from users b left p ≡ Some xs
instrs-only users b left p [] few s = instrs-ended users b left p s
instrs-only users b zero p (x ∷ xs) few s = absurd (omega (arith, few))
instrs-only users b (suc left) p (x ∷ xs) few s =
    let all = stand-length users b p (x ∷ xs) s in
    instrs-step users b left p (Some x) (omega (arith, all)) s.0
    ∙ ap (option_map (λ ys. x ∷ ys)) (instrs-only users b left (p + size_of x) xs (omega (arith, few)) s.1)

code-found : (users b : List ℕ) (xs : List Instr) → code_in users b ≡ Some xs → Stand users b 0 xs
unfolding code_in
code-found users b xs h = instrs-found users b (length b) 0 xs h

code-only : (users b : List ℕ) (xs : List Instr) → Stand users b 0 xs → code_in users b ≡ Some xs
unfolding code_in
code-only users b xs s = instrs-only users b (length b) 0 xs (omega (arith, stand-length users b 0 xs s)) s

-- the body

fits_test : (a b : ℕ) → a ≤ b → nat_le a b ≡ true
fits_test a b e = grind (arith, nat_tests)

fits : (a b : ℕ) → nat_le a b ≡ true → a ≤ b
fits a b e = grind (arith, nat_tests)

pub found-spells : (s users : List ℕ) (v : Body) → body_at s users ≡ Some v → Spells v s users
unfolding body_at body_after numbered_body body_with
found-spells s users v found =
    let h = came (header_at s) (λ h. body_after s users h) v found in
    let there = let_through _ _ v h.after in
    let raw = came (code_in users (take h.by.size (drop h.by.start s))) (λ raw. numbered_body s h.by raw) v there.1 in
    let code = came (each (numbered_instr (places raw.by) (length raw.by)) raw.by) (λ code. handlers_after (places raw.by) (length raw.by) s h.by >>= λ handlers. body_with h.by code handlers) v raw.after in
    let handlers = came (handlers_after (places raw.by) (length raw.by) s h.by) (λ handlers. body_with h.by code.by handlers) v code.after in
    let few = let_through _ _ v handlers.after in
    subst (λ v. Spells v s users) (same_some _ _ few.1)
    (body-found s users h.by raw.by code.by handlers.by h.first (fits _ _ there.0) (code-found users _ raw.by raw.first) code.first handlers.first (ltb-true _ _ few.0))

pub spelled-found : (s users : List ℕ) (v : Body) → Spells v s users → body_at s users ≡ Some v
unfolding body_at body_after numbered_body body_with
spelled-found s users v spelled =
    let h = spelled.header in
    let raw : List Instr = map (placed (at v.code)) v.code in
    let known = body-known v s users h raw spelled spelled.heads refl in
    let code : code_in users (take h.size (drop h.start s)) ≡ Some raw = code-only users _ raw spelled.code in
    rw (spelled.heads, fits_test _ _ spelled.there, code, known.made, known.handled, lt-ltb _ _ spelled.few)
    (ap Some (body-is v s users h v.code v.handlers spelled spelled.heads refl refl))

pub spells-alone : SpellsAlone
spells-alone s users v = (found-spells s users v, spelled-found s users v)
