-- The names of what is written, and those seen so far.
use Rattle.std.proofs.Common.{◌≡◌, ◌∙◌, ℕ, ◌+◌, ◌<◌, ◌≤◌, List, [], ◌∷◌, length, map, drop, get_or, cond, sym, ap, refl}
use Rattle.std.proofs.lemmas.List.{at_drop_more, drop_all}
use Rattle.std.specs.List.{list_any}
use Rattle.std.specs.Prelude.{Bool, true, false, not, ◌||◌, bytes_eq}
use Rattle.serde_json.specs.View.{view}
use Rattle.serde_json.specs.declared.value.Value.{Value}
use Rattle.job_text.specs.Shape.{all_new, write_name}

-- the names that objects give
abbrev pub write_names : List Value → List (List ℕ)
write_names vs = map write_name (map view vs)

abbrev pub is_seen : List ℕ → List (List ℕ) → Bool
is_seen x seen = list_any (λ s. bytes_eq s x) seen

-- a set has the names of some list, after which those to come are tried
pub record SeenSoFar (has : List ℕ → Bool) (rest : List (List ℕ)) (all : List (List ℕ)) : Type 0 where
  pub names : List (List ℕ)
  pub seen : (q : List ℕ) → has q ≡ is_seen q names
  pub same : all_new names rest ≡ all_new [] all

-- a name that was seen
pub seen_twice : (has : Bool) (x : List ℕ) (seen names : List (List ℕ)) → has ≡ is_seen x seen → has ≡ true → false ≡ all_new seen (x ∷ names)
unfolding all_new
seen_twice has x seen names e t = let h : is_seen x seen ≡ true = sym e ∙ t in rw h refl

-- a name that is new
pub seen_once : (has : Bool) (x : List ℕ) (seen names : List (List ℕ)) → has ≡ is_seen x seen → has ≡ false → all_new (x ∷ seen) names ≡ all_new seen (x ∷ names)
unfolding all_new
seen_once has x seen names e t = let h : is_seen x seen ≡ false = sym e ∙ t in rw h refl

pub all_over : (seen : List (List ℕ)) (vs : List Value) (i : ℕ) → length vs ≤ i → true ≡ all_new seen (write_names (drop i vs))
unfolding all_new
all_over seen vs i h = sym (ap (λ rs. all_new seen (write_names rs)) (drop_all i vs h))

pub names_at : (vs : List Value) (i : ℕ) (d : Value) (x : List ℕ) → i < length vs → x ≡ write_name (view (get_or vs i d)) → x ∷ write_names (drop (i + 1) vs) ≡ write_names (drop i vs)
names_at vs i d x h e = ap (λ y. y ∷ write_names (drop (i + 1) vs)) e ∙ sym (at_drop_more (λ rs. write_names rs) vs i d h)

pub or_is : (a b : Bool) → cond a true b ≡ (a || b)
or_is true b = refl
or_is false b = refl

pub was_seen : (has new : Bool) → new ≡ not has → not new ≡ true → has ≡ true
was_seen true new e t = refl
was_seen false true e t = absurd (cc)
was_seen false false e t = absurd (cc)

pub was_new : (has new : Bool) → new ≡ not has → not new ≡ false → has ≡ false
was_new false new e t = refl
was_new true true e t = absurd (cc)
was_new true false e t = absurd (cc)
