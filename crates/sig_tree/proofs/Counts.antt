-- A count, and as many values: what is read is what is stripped.
use Rattle.std.proofs.Common.{◌≡◌, ℕ, List, [], ◌∷◌, Bool, true, Option, length, map, refl, sym, ap, ◌∙◌}
use Rattle.std.specs.List.{list_all}
use Rattle.cil_base.specs.inner.Reading.{compressed_at}
use Rattle.sig_tree.specs.declared.symbol.Symbol.{Symbol}
use Rattle.sig_tree.specs.declared.symbol.Symbol.TheVariants.{Number}
use Rattle.sig_tree.specs.Symbols.{strip_symbols}
use Rattle.sig_tree.specs.Spelling.{in_order, counted, type_symbols}
use Rattle.sig_tree.specs.Fronts.{many_at, counted_at}
use Rattle.sig_tree.specs.declared.tree.TypeSig.{TypeSig}
use Rattle.sig_tree.proofs.Rows.{map_length}
use Rattle.sig_tree.proofs.Strips.{Exact, came, goes, parts, follows, many_sound, many_full}
use Rattle.sig_tree.proofs.Leaves.{number_exact}

singles : {A : Type 0} (f : A → Symbol) (xs : List A) → in_order (map (λ x. f x ∷ []) xs) ≡ map f xs
singles f [] = refl
singles f (x ∷ xs) = ap (λ ys. f x ∷ ys) (singles f xs)

all_true : {A : Type 0} (xs : List A) → list_all (λ x. true) xs ≡ true
all_true [] = refl
all_true (x ∷ xs) = all_true xs

pub counted_exact : {A : Type 0} (at : List ℕ → Option (A × List ℕ)) (f : A → Symbol) → Exact A at (λ x. f x ∷ []) (λ x. true) → Exact (List A) (counted_at at) (λ xs. counted (map f xs)) (λ xs. true)
counted_exact {A} at f exact = record {
  sound = λ xs s r h.
      let c = came (compressed_at s) (λ n r. many_at at n r) (xs, r) h in
      let m = many_sound at (λ (x : A). f x ∷ []) (λ (x : A). true) exact c.value xs c.rest r c.then in
      let n = number_exact.sound c.value s c.rest c.first in (
        ap (λ k. strip_symbols (Number k ∷ map f xs) s) (map_length f xs ∙ m.count)
            ∙ follows (Number c.value ∷ []) (map f xs) s c.rest r n.0 (ap (λ ys. strip_symbols ys c.rest) (sym (singles f xs)) ∙ m.strips),
        refl,
      );
  full = λ xs s r h k.
      let p = parts (Number (length (map f xs)) ∷ []) (map f xs) s r h in
      let n = number_exact.full (length (map f xs)) s p.rest p.before refl in
      goes (compressed_at s) (λ n r. many_at at n r) (length (map f xs)) p.rest n
      ∙ ap (λ k. many_at at k p.rest) (map_length f xs)
      ∙ many_full at (λ (x : A). f x ∷ []) (λ (x : A). true) exact xs p.rest r (ap (λ ys. strip_symbols ys p.rest) (singles f xs) ∙ p.then) (all_true xs);
}

pub types_exact : (ty : List ℕ → Option (TypeSig × List ℕ)) (test : TypeSig → Bool) → Exact TypeSig ty type_symbols test
    → Exact (List TypeSig) (counted_at ty) (λ ts. Number (length ts) ∷ in_order (map type_symbols ts)) (list_all test)
types_exact ty test exact = record {
  sound = λ ts s r h.
      let c = came (compressed_at s) (λ n r. many_at ty n r) (ts, r) h in
      let m = many_sound ty type_symbols test exact c.value ts c.rest r c.then in
      let n = number_exact.sound c.value s c.rest c.first in (
        ap (λ k. strip_symbols (Number k ∷ in_order (map type_symbols ts)) s) m.count
            ∙ follows (Number c.value ∷ []) (in_order (map type_symbols ts)) s c.rest r n.0 m.strips,
        m.pass,
      );
  full = λ ts s r h k.
      let p = parts (Number (length ts) ∷ []) (in_order (map type_symbols ts)) s r h in
      goes (compressed_at s) (λ n r. many_at ty n r) (length ts) p.rest (number_exact.full (length ts) s p.rest p.before refl)
      ∙ many_full ty type_symbols test exact ts p.rest r p.then k;
}
