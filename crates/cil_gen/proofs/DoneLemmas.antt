-- Each edit is done in its place, type by type.
use Rattle.std.proofs.Common.{◌≡◌, refl, subst, ℕ, zero, suc, ◌+◌, ◌*◌, ◌<◌, ◌≤◌, List, [], ◌∷◌, ◌++◌, Some, arith, take}
use Rattle.std.specs.List.{flat_map, fold, range_with_len}
use Rattle.std.specs.Prelude.{slice_get}
use Rattle.node_model.specs.Graph.{Graph, edited, graph_of, untouched}
use Rattle.cil_gen.specs.Done.{EachIsDone, EachLooksAtOne}
use Rattle.cil_gen.specs.GenEdits.{GenStep, body_step, edits_of, field_step, gen_edits, gen_steps, method_step, method_steps, type_step, type_steps}
use Rattle.cil_gen.specs.SmallImage.{small_image}
use Rattle.cil_gen.proofs.GraphLemmas.{Counts, Does, IsDone, Owns, body_does, field_does, method_does, type_does}
use Rattle.cil_gen.proofs.ImageFacts.{field_rows, method_rows, type_rows, types_listed}

-- each of these steps is done as counted, and the graph is so after the last
abbrev AllDo : Graph → List GenStep → (Graph → Type 0) → Type 0
AllDo g [] After = After g
AllDo g (s ∷ ss) After = Does g s (λ h. AllDo h ss After)

-- one after another
then_do : (g : Graph) (xs ys : List GenStep) (Middle After : Graph → Type 0) → AllDo g xs Middle → ((h : Graph) → Middle h → AllDo h ys After) → AllDo g (xs ++ ys) After
then_do g [] ys Middle After first next = next g first
then_do g (x ∷ xs) ys Middle After first next = record {
  done = first.done;
  after = then_do (edited g x.edit) xs ys Middle After first.after next;
}

at_place : (g : Graph) (steps : List GenStep) (After : Graph → Type 0) (place : ℕ) (step : GenStep) → AllDo g steps After → slice_get steps place ≡ Some step
    → IsDone (fold edited g (take place (edits_of steps))) step
at_place g [] After place step all found = absurd cc
at_place g (s ∷ ss) After zero step all found = let same : s ≡ step = cc in subst (IsDone g) same all.done
at_place g (s ∷ ss) After (suc place) step all found = at_place (edited g s.edit) ss After place step all.after found

method_do : (g : Graph) (i j : ℕ) → i < 10000 → j < 3 → Owns i j g → AllDo g (method_step i j ∷ body_step i j ∷ []) (Owns i (j + 1))
method_do g i j few three c =
    let method = method_does g i j few three c in
    record { done = method.done; after = body_does (edited g (method_step i j).edit) i j method.after }

methods_do : (g : Graph) (i : ℕ) → i < 10000 → Owns i 0 g → AllDo g (method_steps i 3) (Owns i 3)
methods_do g i few c =
    then_do g (method_step i 0 ∷ body_step i 0 ∷ []) (method_step i 1 ∷ body_step i 1 ∷ method_step i 2 ∷ body_step i 2 ∷ []) (Owns i 1) (Owns i 3) (method_do g i 0 few (omega arith) c)
    (λ h d. then_do h (method_step i 1 ∷ body_step i 1 ∷ []) (method_step i 2 ∷ body_step i 2 ∷ []) (Owns i 2) (Owns i 3) (method_do h i 1 few (omega arith) d)
    (λ k e. method_do k i 2 few (omega arith) e))

-- so many types, each with its field and its methods
abbrev Grown : ℕ → Graph → Type 0
Grown i g = Counts (i + 1) i (3 * i) g

grown : (i : ℕ) (g : Graph) → Owns i 3 g → Grown (i + 1) g
grown i g c = record {
  types = omega arith;
  fields = c.counts.fields;
  methods = omega arith;
  removed = c.counts.removed;
  listed = c.counts.listed;
}

type_do : (g : Graph) (i : ℕ) → i < 10000 → Grown i g → AllDo g (type_steps i) (Grown (i + 1))
type_do g i few c =
    let type = type_does g i few c in
    let field = field_does (edited g (type_step i).edit) i few type.after in
    record {
      done = type.done;
      after = record {
        done = field.done;
        after = then_do (edited (edited g (type_step i).edit) (field_step i).edit) (method_steps i 3) [] (Owns i 3) (Grown (i + 1)) (methods_do (edited (edited g (type_step i).edit) (field_step i).edit) i few field.after) (grown i);
      };
    }

types_do : (g : Graph) (i n : ℕ) → i + n ≤ 10000 → Grown i g → AllDo g (flat_map type_steps (range_with_len i n)) (Grown (i + n))
types_do g i zero few c = let same : i ≡ i + 0 = omega arith in subst (λ k. Grown k g) same c
types_do g i (suc n) few c =
    then_do g (type_steps i) (flat_map type_steps (range_with_len (i + 1) n)) (Grown (i + 1)) (Grown (i + suc n)) (type_do g i (omega arith) c)
    (λ h d. let same : i + 1 + n ≡ i + suc n = omega arith in subst (λ k. AllDo h (flat_map type_steps (range_with_len (i + 1) n)) (Grown k)) same (types_do h (i + 1) n (omega arith) d))

untouched_grown : Grown 0 (untouched small_image)
untouched_grown = record { types = type_rows; fields = field_rows; methods = method_rows; removed = refl; listed = (_, types_listed) }

at_each : (n place : ℕ) (step : GenStep) → n ≤ 10000 → slice_get (gen_steps n) place ≡ Some step → IsDone (graph_of small_image (take place (gen_edits n))) step
unfolding gen_edits gen_steps
at_each n place step few found =
    at_place (untouched small_image) (flat_map type_steps (range_with_len 0 n)) (Grown (0 + n)) place step (types_do (untouched small_image) 0 n (omega arith) untouched_grown) found

pub each_done : EachIsDone
each_done n place step few found = (at_each n place step few found).answer

pub each_looks : EachLooksAtOne
each_looks n place step few found = (at_each n place step few found).reach
