-- The run of the function is that of the relation.
use Rattle.std.proofs.Common.{◌≡◌, ℕ, ◌+◌, ◌==◌, inl, inr, nat_le, nat_lt, ◌&&◌, ◌||◌, Bool, true, false, cond, List, Option, Some, None, refl, sym, ap, subst, ◌∙◌}
use Rattle.std.proofs.lemmas.Bool.{and_from, and_parts, eq-eqb, eqb-true, false_from_ne_true, le-leb, leb-true, lt-ltb, ltb-true, or_cases, or_left, or_right}
use Rattle.std.specs.Option.{IsSome}
use Rattle.cil_base.specs.Steps.{◌>>=◌}
use Rattle.cil_base.specs.Token.{Token}
use Rattle.md_schema.specs.Cell.{cell_of}
use Rattle.md_schema.specs.Entry.{start_column_of}
use Rattle.md_schema.specs.Runs.{IsRun, MatchesRun, RunOfRuns, run_between, run_end, run_of, table_row_count}

abbrev is_run : ℕ → ℕ → ℕ → Bool
is_run rows start end = (start == end) || (nat_le 1 start && nat_lt start end && nat_le end (rows + 1))

run_there : (rows start end : ℕ) → is_run rows start end ≡ true → IsRun rows start end
run_there rows start end t =
    elim (or_cases (start == end) _ t) [
      | inl same ↦ inl (eqb-true start end same)
      | inr rises ↦
          let outer = and_parts (nat_le 1 start && nat_lt start end) (nat_le end (rows + 1)) rises in
          let inner = and_parts (nat_le 1 start) (nat_lt start end) outer.0 in
          inr (leb-true 1 start inner.0, ltb-true start end inner.1, leb-true end (rows + 1) outer.1)
    ]

run_said : (rows start end : ℕ) → IsRun rows start end → is_run rows start end ≡ true
run_said rows start end (inl same) = or_left (start == end) _ (eq-eqb start end same)
run_said rows start end (inr (first, rises, last)) =
    or_right (start == end) _
    (and_from _ _ (and_from _ _ (le-leb 1 start first) (lt-ltb start end rises)) (le-leb end (rows + 1) last))

matched : (rows start end : ℕ) → MatchesRun rows start end (run_between rows start end)
matched rows start end =
    elim (is_run rows start end) as (λ b. is_run rows start end ≡ b → MatchesRun rows start end (cond b (Some (start, end)) None)) [
      | true ↦ λ t. (refl, refl, run_there rows start end t)
      | false ↦ λ t run. let clash : true ≡ false = sym (run_said rows start end run) ∙ t in cc
    ] refl

between : (rows start end : ℕ) (run : Option (ℕ × ℕ)) → MatchesRun rows start end run → run_between rows start end ≡ run
between rows start end None none =
    ap (λ b. cond b (Some (start, end)) None) (false_from_ne_true (is_run rows start end) (λ t. none (run_there rows start end t)))
between rows start end (Some run) (first, last, is) =
    ap (λ b. cond b (Some (start, end)) None) (run_said rows start end is)
    ∙ ap (λ n. Some (n, end)) (sym first) ∙ ap (λ n. Some (run.0, n)) (sym last)

-- the run by the owner's column
abbrev by_column : List ℕ → Token → ℕ → ℕ → Option (ℕ × ℕ)
by_column stream owner table column =
    run_between (table_row_count stream table) (cell_of stream owner.table owner.rid column) (run_end stream owner table column)

at_column : (stream : List ℕ) (owner : Token) (table column : ℕ) → start_column_of owner.table table ≡ Some column
    → run_of stream owner table ≡ by_column stream owner table column
unfolding run_of
at_column stream owner table column is = ap (λ (o : Option ℕ). o >>= by_column stream owner table) is

started : (o : Option ℕ) → IsSome o → (column : ℕ) × (o ≡ Some column)
started None h = absurd (cc)
started (Some column) h = (column, refl)

pub run_of-runs : RunOfRuns
run_of-runs stream owner table run owned =
    let found = started (start_column_of owner.table table) owned in
    let rows = table_row_count stream table in
    let start = λ (column : ℕ). cell_of stream owner.table owner.rid column in
    let end = λ (column : ℕ). run_end stream owner table column in (
      λ e column is. subst (MatchesRun rows (start column) (end column)) (sym (at_column stream owner table column is) ∙ e) (matched rows (start column) (end column)),
      λ runs. at_column stream owner table found.0 found.1 ∙ between rows (start found.0) (end found.0) run (runs found.0 found.1),
    )
