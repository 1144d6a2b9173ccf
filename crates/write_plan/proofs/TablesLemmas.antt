-- Rows split by their tables, one row more.
use Rattle.std.proofs.Common.{◌≡◌, ◌≢◌, ◌∙◌, sym, ap, refl, ℕ, ◌<◌, Bool, true, false, cond, List, [], ◌∷◌, ◌++◌, append-nil, length, get_or, set, replicate, arith}
use Rattle.std.specs.Prelude.{◌==◌}
use Rattle.std.proofs.lemmas.Bool.Decides.{nat_tests}
use Rattle.std.proofs.lemmas.List.{get_or-replicate, get_or-set_other, get_or-set_same, length-set}
use Rattle.std.proofs.lemmas.List.Elements.{filter-append}
use Rattle.cil_base.specs.Token.{Token}
use Rattle.write_plan.specs.GraphWalk.{rows_of_table}
use Rattle.write_plan.specs.inner.Tables.{IsSplit}

pub split_none : (tables : List (List Token)) → tables ≡ replicate 256 [] → IsSplit [] tables
split_none tables is = record {
  count = ap length is ∙ refl;
  rows = λ table small. ap (λ (lists : List (List Token)). get_or lists table []) is ∙ get_or-replicate 256 table [] [] small;
}

pub split_next : (front : List Token) (tables new : List (List Token)) (t : Token) → IsSplit front tables → t.table < 256
    → new ≡ set tables t.table (get_or tables t.table [] ++ t ∷ []) → IsSplit (front ++ t ∷ []) new
split_next front tables new t split small is = record {
  count = ap length is ∙ length-set tables t.table (get_or tables t.table [] ++ t ∷ []) ∙ split.count;
  rows = λ table within. ap (λ (lists : List (List Token)). get_or lists table []) is ∙ by table within (t.table == table) refl ∙ sym (filter-append (λ x. x.table == table) front (t ∷ []));
}
  where
    by : (table : ℕ) → table < 256 → (b : Bool) → (t.table == table) ≡ b
        → get_or (set tables t.table (get_or tables t.table [] ++ t ∷ [])) table [] ≡ rows_of_table table front ++ cond (t.table == table) (t ∷ []) []
    by table within true e =
        let same : t.table ≡ table = grind (arith, nat_tests) in
        ap (λ n. get_or (set tables t.table (get_or tables t.table [] ++ t ∷ [])) n []) (sym same)
        ∙ get_or-set_same tables t.table (get_or tables t.table [] ++ t ∷ []) [] (omega (arith, split.count, small))
        ∙ ap (λ rows. rows ++ t ∷ []) (split.rows t.table small) ∙ ap (λ n. rows_of_table n front ++ t ∷ []) same
        ∙ ap (λ b. rows_of_table table front ++ cond b (t ∷ []) []) (sym e)
    by table within false e =
        let other : table ≢ t.table = λ h. absurd (grind (arith, nat_tests)) in
        get_or-set_other tables t.table table (get_or tables t.table [] ++ t ∷ []) [] other ∙ split.rows table within
        ∙ sym (append-nil (rows_of_table table front)) ∙ ap (λ b. rows_of_table table front ++ cond b (t ∷ []) []) (sym e)
