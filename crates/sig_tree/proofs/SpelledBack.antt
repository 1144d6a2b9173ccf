-- What is spelled is stripped off again.
use Rattle.std.proofs.Common.{◌≡◌, ℕ, ◌+◌, ◌*◌, ◌^◌, ◌<◌, List, [], ◌∷◌, ◌++◌, Bool, true, false, cond, ltb, ℤ, Option, Some, None, is_some, unwrap_or, refl, ap, ◌∙◌, arith, append_assoc}
use Rattle.std.specs.Option.{option_and_then, option_map}
use Rattle.std.specs.List.{list_all}
use Rattle.cil_base.specs.Token.{Token}
use Rattle.cil_base.specs.Number.{strip_number, spelled_number}
use Rattle.cil_base.specs.Signed.{is_within, strip_signed, spelled_signed}
use Rattle.cil_base.proofs.NumberLemmas.{strip-spelled_number, below}
use Rattle.cil_base.proofs.SignedLemmas.{strip-spelled_signed}
use Rattle.sig_tree.specs.declared.symbol.Symbol.{Symbol}
use Rattle.sig_tree.specs.declared.symbol.Symbol.TheVariants.{Byte, Number, Signed, TypeToken}
use Rattle.sig_tree.specs.Symbols.{strip_symbol, strip_symbols, spelling_of, can_be_spelled, spelled, tag_of, coded_token}
use Rattle.sig_tree.proofs.Strips.{split, none_some, both, one, byte_strips}
use Rattle.sig_tree.proofs.Leaves.{mapped, table_tag}

number_back : (n : ℕ) (b : Bool) (t : List ℕ) → ltb n (2 ^ 29) ≡ b → is_some (cond {A = Option (List ℕ)} b (Some (spelled_number n)) None) ≡ true
    → strip_number n (unwrap_or (cond {A = Option (List ℕ)} b (Some (spelled_number n)) None) [] ++ t) ≡ Some t
number_back n true t e h = strip-spelled_number n t (below n (2 ^ 29) e)
number_back n false t e h = absurd cc

signed_back : (z : ℤ) (b : Bool) (t : List ℕ) → is_within 29 z ≡ b → is_some (cond {A = Option (List ℕ)} b (Some (spelled_signed z)) None) ≡ true
    → strip_signed z (unwrap_or (cond {A = Option (List ℕ)} b (Some (spelled_signed z)) None) [] ++ t) ≡ Some t
signed_back z true t e h = strip-spelled_signed z t e
signed_back z false t e h = absurd cc

-- the number of a type token is below 2^29
coded_small : (u : Token) (n : ℕ) → coded_token u ≡ Some n → n < 2 ^ 29
coded_small u n h =
    split {P = n < 2 ^ 29} (ltb u.rid (2 ^ 24)) (option_map (λ (tag : ℕ). u.rid * 4 + tag) (tag_of u.table)) None (Some n) h
    (λ e f.
    let m = mapped (λ (tag : ℕ). u.rid * 4 + tag) (tag_of u.table) n f in
    let small : m.value < 3 = (table_tag u.table m.value m.first).small in
    let low : u.rid < 2 ^ 24 = below u.rid (2 ^ 24) e in
    let same : u.rid * 4 + m.value ≡ n = m.same in
    omega arith)
    (λ e f. none_some {A = ℕ} {P = n < 2 ^ 29} n f)

token_back : (u : Token) (o : Option ℕ) (t : List ℕ) → coded_token u ≡ o → is_some (option_map spelled_number o) ≡ true
    → option_and_then {T = ℕ} {U = List ℕ} (λ n. strip_number n (unwrap_or (option_map spelled_number o) [] ++ t)) o ≡ Some t
token_back u None t e h = absurd cc
token_back u (Some n) t e h = strip-spelled_number n t (coded_small u n e)

symbol_back : (x : Symbol) (t : List ℕ) → can_be_spelled x ≡ true → strip_symbol x (unwrap_or (spelling_of x) [] ++ t) ≡ Some t
symbol_back (Byte b) t h = byte_strips b t
symbol_back (Number n) t h = number_back n (ltb n (2 ^ 29)) t refl h
symbol_back (Signed z) t h = signed_back z (is_within 29 z) t refl h
symbol_back (TypeToken u) t h = token_back u (coded_token u) t refl h

pub spelled_back : (xs : List Symbol) (r : List ℕ) → list_all can_be_spelled xs ≡ true → strip_symbols xs (spelled xs ++ r) ≡ Some r
spelled_back [] r h = refl
spelled_back (x ∷ xs) r h =
    let p = both (can_be_spelled x) (list_all can_be_spelled xs) h in
    ap (strip_symbols (x ∷ xs)) (append_assoc (unwrap_or (spelling_of x) []) (spelled xs) r)
    ∙ one x xs (unwrap_or (spelling_of x) [] ++ (spelled xs ++ r)) (spelled xs ++ r) r (symbol_back x (spelled xs ++ r) p.0) (spelled_back xs r p.1)
