-- From the walk and the refusals to the plan.
use Rattle.std.proofs.Common.{◌≡◌, ◌∙◌, sym, ap, ap₂, subst, refl, ℕ, suc, zero, ◌<◌, ◌-◌, ◌^◌, Bool, true, false, cond, List, [], ◌∷◌, ◌++◌, length, get_or, Option, Some, None, arith}
use Rattle.std.specs.Prelude.{◌||◌, ◌&&◌, ◌==◌, IsErrAnd, Result, Ok, Err, nat_lt, slice_get}
use Rattle.std.specs.List.{range_with_len}
use Rattle.std.specs.Option.{option_map, option_or}
use Rattle.std.proofs.Math.Path.{fun_ext}
use Rattle.std.proofs.lemmas.Bool.Decides.{nat_tests}
use Rattle.std.proofs.lemmas.List.FromFn.{get_or-range_with_len, length-range_with_len}
use Rattle.cil_base.specs.Token.{Token}
use Rattle.node_model.specs.EditRefusals.{first_made}
use Rattle.node_model.specs.declared.key.Key.{Key}
use Rattle.node_model.specs.declared.look.Look.{Look}
use Rattle.node_model.specs.declared.value.Value.{Value}
use Rattle.write_plan.specs.GraphWalk.{Met, Walked, graph_walk, rows_of_table, value_among, walked_value}
use Rattle.write_plan.specs.Refusals.{Refused, Refuses, dangling_at, ends_empty, first_fault, later_refusal, not_pure, plan_refusal, too_many}
use Rattle.write_plan.specs.Unfit.{unfit}
use Rattle.write_plan.specs.declared.kept.Kept.{Kept}
use Rattle.write_plan.specs.declared.met.MetRows.{MetRows}
use Rattle.write_plan.specs.declared.refusal.WriteRefusal.{WriteRefusal}
use Rattle.write_plan.specs.declared.refusal.WriteRefusal.TheVariants.{Reached, Twice, TooMany, Unfit}
use Rattle.write_plan.specs.Planned.{Planned, PlanMade, kept_value}
use Rattle.write_plan.specs.inner.Taken.{IsTaken, met_rows, value_kept, walked_so}
use Rattle.write_plan.proofs.TableLemmas.{same_walked}
use Rattle.write_plan.proofs.KeptLemmas.{TakesOk, or_first, or_none, or_second, refused_to}

-- a walk that met no fault
pub record Walks (see : Key → Look) (kept : Kept) (met : MetRows) : Type 0 where
  pub walked : walked_so kept met ≡ graph_walk see
  pub value : value_kept kept ≡ walked_value see
  pub sound : first_fault see (graph_walk see).keys ≡ None

pub walks : (see : Key → Look) (start kept : Kept) (met : MetRows) → start.keys ≡ [] → walked_so kept met ≡ graph_walk see → TakesOk see start (graph_walk see).keys kept → Walks see kept met
walks see start kept met none walked took =
    let keys : kept.keys ≡ (graph_walk see).keys = took.0 ∙ ap (λ ks. ks ++ (graph_walk see).keys) none in record {
      walked = walked;
      value = fun_ext (λ k. took.1.values k ∙ ap (λ ks. value_among see ks k) keys);
      sound = ap (first_fault see) (sym keys) ∙ took.1.sound;
    }

-- the first refusal of the graph

pub none_refused : (see : Key → Look) → first_fault see (graph_walk see).keys ≡ None → later_refusal (walked_value see) (graph_walk see) ≡ None → plan_refusal see ≡ None
unfolding plan_refusal
none_refused see sound later = ap₂ (λ x y. option_or (option_map Reached x) (option_or y None)) sound later

pub reached_first : (see : Key → Look) (e : WriteRefusal) → Refused (option_map Reached (first_fault see (graph_walk see).keys)) e → Refused (plan_refusal see) e
unfolding plan_refusal
reached_first see e r = refused_to (option_map Reached (first_fault see (graph_walk see).keys)) _ e (λ h. ap (λ x. option_or x (option_or (later_refusal (walked_value see) (graph_walk see)) None)) h) r

pub later_first : (see : Key → Look) (e : WriteRefusal) → first_fault see (graph_walk see).keys ≡ None → Refused (later_refusal (walked_value see) (graph_walk see)) e → Refused (plan_refusal see) e
unfolding plan_refusal
later_first see e sound r =
    refused_to (later_refusal (walked_value see) (graph_walk see)) _ e
    (λ h. ap (λ x. option_or (option_map Reached x) (option_or (later_refusal (walked_value see) (graph_walk see)) None)) sound ∙ or_none (later_refusal (walked_value see) (graph_walk see)) ∙ h) r

pub later_as_seen : (see : Key → Look) (kept : Kept) (met : MetRows) → Walks see kept met → later_refusal (value_kept kept) (walked_so kept met) ≡ later_refusal (walked_value see) (graph_walk see)
later_as_seen see kept met w = ap₂ later_refusal w.value w.walked

pub made_not : (see : Key → Look) (r : Result Planned WriteRefusal) (e : WriteRefusal) → IsErrAnd r (λ x. x ≡ e) → Refused (plan_refusal see) e → PlanMade see r
made_not see (Ok plan) e is refused = absurd is
made_not see (Err x) e is refused = subst (Refused (plan_refusal see)) (sym is) refused

-- the last two of the later refusals

module _ (value : Key → Option Value) (w : Walked) (pure : not_pure value w.keys ≡ None) (once : option_map Twice (slice_get w.again 0) ≡ None)
    (kept : first_made (λ k. dangling_at w.all k (value k)) w.keys ≡ None) where
  abbrev many : Option WriteRefusal
  many = first_made (too_many value w.all) (range_with_len 0 64)

  abbrev last : Option WriteRefusal
  last = option_map Unfit (unfit value w.all)

  left_over : later_refusal value w ≡ option_or many (option_or last None)
  unfolding later_refusal
  left_over =
      ap (λ x. option_or x (option_or (option_map Twice (slice_get w.again 0)) (option_or (first_made (λ k. dangling_at w.all k (value k)) w.keys) (option_or many (option_or last None))))) pure
      ∙ ap (λ x. option_or x (option_or (first_made (λ k. dangling_at w.all k (value k)) w.keys) (option_or many (option_or last None)))) once
      ∙ ap (λ x. option_or x (option_or many (option_or last None))) kept

  pub many_refused : (e : WriteRefusal) → Refused many e → Refused (later_refusal value w) e
  many_refused e r = refused_to many (later_refusal value w) e (λ h. left_over ∙ ap (λ x. option_or x (option_or last None)) h) r

  pub last_refused : (r : Result (Unit {0}) WriteRefusal) → many ≡ None → Refuses last r → Refuses (later_refusal value w) r
  last_refused r none refuses =
      subst (λ x. Refuses x r) (sym (left_over ∙ ap (λ x. option_or x (option_or last None)) none ∙ or_none last)) refuses

-- no table has too many rows

made_at : {A B : Type 0} (f : A → Option B) (xs : List A) (i : ℕ) (d : A) → first_made f xs ≡ None → i < length xs → f (get_or xs i d) ≡ None
made_at f [] i d e h = absurd (omega arith)
made_at f (x ∷ xs) zero d e h = or_first (f x) (first_made f xs) e
made_at f (x ∷ xs) (suc i) d e h = made_at f xs i d (or_second (f x) (first_made f xs) e) (omega (arith, h))

not_many : (value : Key → Option Value) (rows : List Token) (table : ℕ) → too_many value rows table ≡ None → length (rows_of_table table rows) < 2 ^ 24
not_many value rows table e = by (nat_lt (2 ^ 24 - 1) (length (rows_of_table table rows))) refl e
  where
    by : (b : Bool) → nat_lt (2 ^ 24 - 1) (length (rows_of_table table rows)) ≡ b
        → cond (b || ((length (rows_of_table table rows) == 65535) && ends_empty value rows table)) (Some (TooMany table (length (rows_of_table table rows)))) None ≡ None
        → length (rows_of_table table rows) < 2 ^ 24
    by true is h = absurd (cc)
    by false is h = grind (arith, nat_tests)

pub few_rows : (value : Key → Option Value) (w : Walked) → later_refusal value w ≡ None → (table : ℕ) → table < 64 → length (rows_of_table table w.all) < 2 ^ 24
unfolding later_refusal
few_rows value w none table small =
    let all = or_first (first_made (too_many value w.all) (range_with_len 0 64)) (option_or (option_map Unfit (unfit value w.all)) None)
    (or_second (first_made (λ k. dangling_at w.all k (value k)) w.keys) _
    (or_second (option_map Twice (slice_get w.again 0)) _ (or_second (not_pure value w.keys) _ none))) in
    let at = made_at (too_many value w.all) (range_with_len 0 64) table 0 all (omega (arith, small, length-range_with_len 0 64)) in
    not_many value w.all table (ap (too_many value w.all) (omega (arith, get_or-range_with_len 0 64 table 0 small)) ∙ at)

-- before anything was taken

pub kept_empty : (see : Key → Look) (w : Kept) → w.keys ≡ [] → w.values.entries ≡ [] → IsTaken see w
kept_empty see w keys entries = record {
  values = λ k. ap (λ es. kept_value es k) entries ∙ sym (ap (λ ks. value_among see ks k) keys);
  sound = ap (first_fault see) keys;
}

pub begun_empty : (w : Kept) (m : MetRows) → w.keys ≡ [] → met_rows m ≡ record { all = []; rows = []; again = [] } → walked_so w m ≡ record { keys = []; all = []; again = [] }
begun_empty w m keys rows = same_walked w.keys [] m.all [] m.again [] keys (ap (λ (n : Met). n.all) rows) (ap (λ (n : Met). n.again) rows)
