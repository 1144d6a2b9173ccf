-- What is stripped can be spelled.
use Rattle.std.proofs.Common.{◌≡◌, ℕ, ◌^◌, ◌<◌, ◌≤◌, List, [], ◌∷◌, Bool, true, false, cond, ltb, ℤ, pos, negsuc, ◌-◌, Option, Some, None, is_some, refl, sym, ap, ◌∙◌, arith, inl, inr}
use Rattle.std.specs.Option.{option_and_then, option_map}
use Rattle.std.specs.List.{list_all}
use Rattle.std.proofs.lemmas.Bool.Decides.{nat_tests}
use Rattle.cil_base.specs.Token.{Token}
use Rattle.cil_base.specs.Number.{strip_number, spelled_number}
use Rattle.cil_base.specs.Signed.{is_within, strip_signed, spelled_signed}
use Rattle.cil_base.proofs.NumberLemmas.{forms}
use Rattle.sig_tree.specs.declared.symbol.Symbol.{Symbol}
use Rattle.sig_tree.specs.declared.symbol.Symbol.TheVariants.{Byte, Number, Signed, TypeToken}
use Rattle.sig_tree.specs.Symbols.{strip_symbol, strip_symbols, coded_token, can_be_spelled}
use Rattle.sig_tree.proofs.Strips.{none_some, and, first_of_row}

number_spells : (n : ℕ) (s r : List ℕ) → strip_number n s ≡ Some r → can_be_spelled (Number n) ≡ true
number_spells n s r h =
    let small : n < 2 ^ 29 =
    elim (forms n s r h) [
      | inl a ↦ let low : n < 2 ^ 7 = a.fits in omega arith
      | inr o ↦ elim o [
        | inl a ↦ let low : n < 2 ^ 14 = a.fits in omega arith
        | inr a ↦ a.fits
      ]
    ] in
    let test : ltb n (2 ^ 29) ≡ true = grind (arith, nat_tests) in
    ap (λ (b : Bool). is_some (cond {A = Option (List ℕ)} b (Some (spelled_number n)) None)) test

narrower : (z : ℤ) (k m : ℕ) → 2 ^ (k - 1) ≤ 2 ^ (m - 1) → is_within m z ≡ false → is_within k z ≡ false
narrower (pos n) k m h e = grind (arith, nat_tests)
narrower (negsuc n) k m h e = grind (arith, nat_tests)

signed_spells : (z : ℤ) (s r : List ℕ) → strip_signed z s ≡ Some r → can_be_spelled (Signed z) ≡ true
unfolding strip_signed
signed_spells z s r h =
    elim (is_within 29 z) as (λ v. is_within 29 z ≡ v → is_some (cond {A = Option (List ℕ)} v (Some (spelled_signed z)) None) ≡ true) [
      | true ↦ λ e. refl
      | false ↦ λ e.
          let f = narrower z 14 29 (omega arith) e in
          let g = narrower z 7 29 (omega arith) e in
          let none : strip_signed z s ≡ None = rw (e, f, g) in
          none_some {A = List ℕ} {P = false ≡ true} r (sym none ∙ h)
    ] refl

token_spells : (t : Token) (s r : List ℕ) (o : Option ℕ) → coded_token t ≡ o → option_and_then {T = ℕ} {U = List ℕ} (λ n. strip_number n s) o ≡ Some r → is_some (option_map spelled_number o) ≡ true
token_spells t s r None e h = none_some {A = List ℕ} {P = false ≡ true} r h
token_spells t s r (Some n) e h = refl

symbol_spells : (x : Symbol) (s r : List ℕ) → strip_symbol x s ≡ Some r → can_be_spelled x ≡ true
symbol_spells (Byte b) s r h = refl
symbol_spells (Number n) s r h = number_spells n s r h
symbol_spells (Signed z) s r h = signed_spells z s r h
symbol_spells (TypeToken t) s r h = token_spells t s r (coded_token t) refl h

pub strips_spellable : (xs : List Symbol) (s r : List ℕ) → strip_symbols xs s ≡ Some r → list_all can_be_spelled xs ≡ true
strips_spellable [] s r h = refl
strips_spellable (x ∷ xs) s r h =
    let p = first_of_row x xs s r h in
    and (can_be_spelled x) (list_all can_be_spelled xs) (symbol_spells x s p.rest p.before) (strips_spellable xs p.rest r p.then)
