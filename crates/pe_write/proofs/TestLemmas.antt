-- Tests on numbers, and lists of conditions of which none holds.
use Rattle.std.proofs.Common.{◌≡◌, ℕ, ◌<◌, ◌≤◌, Bool, true, false, cond, List, [], ◌∷◌, not, refl, ap, ◌∙◌, arith, eqb, ltb, leb}
use Rattle.std.specs.Prelude.{◌&&◌, Ok, Err}
use Rattle.std.proofs.lemmas.Bool.Decides.{nat_tests}
use Rattle.pe_image.specs.Places.{first_refusal}

pub at-most : (a b : ℕ) → a ≤ b → leb a b ≡ true
at-most a b h = grind (arith, nat_tests)

pub less : (a b : ℕ) → a < b → ltb a b ≡ true
less a b h = grind (arith, nat_tests)

pub not-less : (a b : ℕ) → b ≤ a → ltb a b ≡ false
not-less a b h = grind (arith, nat_tests)

pub is-not-less : (a b : ℕ) → b ≤ a → not (ltb a b) ≡ true
is-not-less a b h = grind (arith, nat_tests)

pub is-not-zero : (a : ℕ) → 0 < a → not (eqb a 0) ≡ true
is-not-zero a h = grind (arith, nat_tests)

pub both-true : (a b : Bool) → a ≡ true → b ≡ true → a && b ≡ true
both-true a b h k = ap (λ t. t && b) h ∙ k

abbrev pub NoneHolds : {E : Type 0} → List (Bool × E) → Type 0
NoneHolds [] = Unit {0}
NoneHolds (c ∷ cs) = (c.0 ≡ false) × NoneHolds cs

pub not-refused : {A E : Type 0} (cs : List (Bool × E)) (a : A) → NoneHolds cs → first_refusal cs a ≡ Ok a
not-refused [] a h = refl
not-refused (c ∷ cs) a h = ap (λ t. cond t (Err c.1) (first_refusal cs a)) h.0 ∙ not-refused cs a h.1
