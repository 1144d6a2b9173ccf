-- The lists of edits, one more type or method at a time.
use Rattle.std.proofs.Common.{◌≡◌, refl, sym, ap, ◌∙◌, ℕ, suc, ◌+◌, List, [], ◌∷◌, ◌++◌, append_assoc, arith}
use Rattle.std.specs.List.{flat_map, range_with_len}
use Rattle.std.proofs.lemmas.Grind.{flat_map-append}
use Rattle.std.proofs.lemmas.List.{append-nil, map-append}
use Rattle.cil_base.proofs.StepLemmas.{range_more}
use Rattle.cil_gen.specs.GenEdits.{GenStep, body_step, edits_of, gen_edits, gen_steps, method_step, method_steps, type_steps}

-- what is made of one number more
more : {A : Type 0} (f : ℕ → List A) (n : ℕ) → flat_map f (range_with_len 0 (n + 1)) ≡ flat_map f (range_with_len 0 n) ++ f n
more f n =
    let next : n + 1 ≡ suc n = omega arith in
    let last : 0 + n ≡ n = omega arith in
    ap (λ m. flat_map f (range_with_len 0 m)) next ∙ ap (flat_map f) (range_more 0 n) ∙ flat_map-append f (range_with_len 0 n) ((0 + n) ∷ [])
    ∙ ap (λ xs. flat_map f (range_with_len 0 n) ++ xs) (append-nil (f (0 + n)) ∙ ap f last)

pub method_more : (i j : ℕ) → edits_of (method_steps i (j + 1)) ≡ (edits_of (method_steps i j) ++ (method_step i j).edit ∷ []) ++ (body_step i j).edit ∷ []
method_more i j =
    let both = method_step i j ∷ body_step i j ∷ [] in
    ap edits_of (more (λ k. method_step i k ∷ body_step i k ∷ []) j) ∙ map-append (λ (step : GenStep). step.edit) (method_steps i j) both
    ∙ sym (append_assoc (edits_of (method_steps i j)) ((method_step i j).edit ∷ []) ((body_step i j).edit ∷ []))

pub type_more : (n : ℕ) → gen_edits (n + 1) ≡ gen_edits n ++ edits_of (type_steps n)
unfolding gen_edits gen_steps
type_more n = ap edits_of (more type_steps n) ∙ map-append (λ (step : GenStep). step.edit) (gen_steps n) (type_steps n)

pub none_yet : gen_edits 0 ≡ []
unfolding gen_edits gen_steps
none_yet = refl
