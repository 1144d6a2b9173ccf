-- The bytes before the first zero byte are those before its position.
use Rattle.std.proofs.Common.{◌≡◌, ℕ, suc, ◌+◌, List, [], ◌∷◌, Bool, true, false, not, cond, length, take, Some, None, refl, sym, ap, ◌∙◌, arith, eqb, ltb}
use Rattle.std.specs.Option.{option_map}
use Rattle.std.specs.List.{position, position_or_len}
use Rattle.std.proofs.lemmas.Bool.Decides.{nat_tests}
use Rattle.md_heaps.specs.Entries.{before_zero}

abbrev is_zero : ℕ → Bool
is_zero b = eqb b 0

-- the place of the first zero byte, or the length
abbrev end : List ℕ → ℕ
end s = position_or_len is_zero s

mapped : (b : ℕ) (t : Bool) (s : List ℕ) → option_map (λ (rest : List ℕ). b ∷ rest) (cond t (Some s) None) ≡ cond t (Some (b ∷ s)) None
mapped b true s = refl
mapped b false s = refl

more : (m n : ℕ) → ltb m n ≡ ltb (1 + m) (suc n)
more m n = grind (arith, nat_tests)

taken : (b n : ℕ) (s : List ℕ) → b ∷ take n s ≡ take (1 + n) (b ∷ s)
taken b n s = let e : 1 + n ≡ suc n = omega arith in rw e

some_place : (n : ℕ) → ltb 0 (suc n) ≡ true
some_place n = grind (arith, nat_tests)

pub before-end : (s : List ℕ) → before_zero s ≡ cond (ltb (end s) (length s)) (Some (take (end s) s)) None
before-end [] = refl
before-end (b ∷ s) =
    elim (eqb b 0) as (λ t. cond t (Some []) (option_map (λ (rest : List ℕ). b ∷ rest) (before_zero s)) ≡ cond (ltb (cond (not t) (1 + end s) 0) (suc (length s))) (Some (take (cond (not t) (1 + end s) 0) (b ∷ s))) None) [
      | true ↦ ap (λ (t : Bool). cond t (Some (take 0 (b ∷ s))) None) (sym (some_place (length s)))
      | false ↦ ap (option_map (λ (rest : List ℕ). b ∷ rest)) (before-end s) ∙ mapped b (ltb (end s) (length s)) (take (end s) s)
          ∙ ap (λ (t : Bool). cond t (Some (b ∷ take (end s) s)) None) (more (end s) (length s)) ∙ ap (λ (l : List ℕ). cond (ltb (1 + end s) (suc (length s))) (Some l) None) (taken b (end s) s)
    ]

pub before-none : (s : List ℕ) → position is_zero s ≡ None → before_zero s ≡ None
before-none s h =
    before-end s ∙ by_test (ltb (end s) (length s)) (end s) (take (end s) s) h
  where
    by_test : (t : Bool) (n : ℕ) (l : List ℕ) → cond t (Some n) None ≡ None → cond t (Some l) None ≡ None
    by_test true n l h = cc
    by_test false n l h = refl

pub before-some : (s : List ℕ) (n : ℕ) → position is_zero s ≡ Some n → before_zero s ≡ Some (take n s)
before-some s n h =
    before-end s ∙ by_test (ltb (end s) (length s)) (end s) n s h
  where
    by_test : (t : Bool) (m n : ℕ) (s : List ℕ) → cond t (Some m) None ≡ Some n → cond t (Some (take m s)) None ≡ Some (take n s)
    by_test true m n s h = let e : m ≡ n = cc in ap (λ (k : ℕ). Some (take k s)) e
    by_test false m n s h = cc
