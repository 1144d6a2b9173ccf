-- The rows of opened tables, and the runs of rows that rows own.
use Rattle.std.proofs.Common.{◌≡◌, ℕ, ◌+◌, ◌-◌, ◌<◌, ◌≤◌, ◌^◌, List, [], ◌∷◌, ◌++◌, map, Option, Some, None, Bool, true, false, nat_lt, nat_le, ◌==◌, ◌&&◌, ◌||◌, cond, refl, ap, ◌∙◌, arith}
use Rattle.std.specs.List.{range_with_len}
use Rattle.std.proofs.lemmas.Bool.Decides.{nat_tests}
use Rattle.std.proofs.lemmas.List.FromFn.{map-range_with_len_more}
use Rattle.cil_base.specs.Steps.{◌>>=◌}
use Rattle.cil_base.specs.Token.{Token}
use Rattle.md_schema.specs.Cell.{IsRowOf, cell_of}
use Rattle.md_schema.specs.Entry.{start_column_of}
use Rattle.md_schema.specs.Layout.{Head, OpensTables}
use Rattle.md_schema.specs.Runs.{run_between, run_end, run_of, table_row_count}
use Rattle.md_tables.proofs.CellLemmas.{few_rows}
use Rattle.md_tables.proofs.LinksLemmas.{table_row_count-is}
use Rattle.node_model.specs.Lists.{rows_between}

pub row_of : (stream : List ℕ) (head : Head) (table rid : ℕ) → OpensTables stream head → 0 < rid → rid ≤ table_row_count stream table → IsRowOf head table rid
row_of stream head table rid o first last = record { first = omega arith; last = omega (arith, table_row_count-is stream head table o) }

pub few_counted : (stream : List ℕ) (head : Head) (table : ℕ) → OpensTables stream head → table_row_count stream table < 2 ^ 24
few_counted stream head table o = omega (arith, table_row_count-is stream head table o, few_rows stream head table o)

some-same : {A : Type 0} {x y : A} → Some x ≡ Some y → x ≡ y
some-same is = cc

-- a run rises, and ends past the last row at most
between-bounds : (rows s e : ℕ) (run : ℕ × ℕ) → run_between rows s e ≡ Some run → (run.0 ≤ run.1) × (run.0 < run.1 → run.1 ≤ rows + 1)
between-bounds rows s e run =
    let test : Bool = (s == e) || (nat_le 1 s && nat_lt s e && nat_le e (rows + 1)) in
    elim test as (λ b. test ≡ b → cond b (Some (s, e)) None ≡ Some run → (run.0 ≤ run.1) × (run.0 < run.1 → run.1 ≤ rows + 1)) [
      | true ↦ λ t is.
          let start : s ≡ run.0 = ap (λ (r : ℕ × ℕ). r.0) (some-same is) in
          let end : e ≡ run.1 = ap (λ (r : ℕ × ℕ). r.1) (some-same is) in
          (grind (arith, nat_tests, t, start, end), λ less. grind (arith, nat_tests, t, less, start, end))
      | false ↦ λ t is. absurd (cc)
    ] refl

bounds-of : (stream : List ℕ) (owner : Token) (table : ℕ) (column : Option ℕ) (run : ℕ × ℕ) → (column >>= λ n. run_between (table_row_count stream table) (cell_of stream owner.table owner.rid n) (run_end stream owner table n)) ≡ Some run → (run.0 ≤ run.1) × (run.0 < run.1 → run.1 ≤ table_row_count stream table + 1)
bounds-of stream owner table None run e = absurd (cc)
bounds-of stream owner table (Some n) run e = between-bounds (table_row_count stream table) (cell_of stream owner.table owner.rid n) (run_end stream owner table n) run e

pub run_bounds : (stream : List ℕ) (owner : Token) (table : ℕ) (run : ℕ × ℕ) → run_of stream owner table ≡ Some run → (run.0 ≤ run.1) × (run.0 < run.1 → run.1 ≤ table_row_count stream table + 1)
unfolding run_of
run_bounds stream owner table run e = bounds-of stream owner table (start_column_of owner.table table) run e

pub one_more : (table first rid : ℕ) → first ≤ rid → rows_between table (first, rid + 1) ≡ rows_between table (first, rid) ++ record { table = table; rid = rid } ∷ []
one_more table first rid h =
    let row : ℕ → Token = λ n. record { table = table; rid = n } in
    let count : rid + 1 - first ≡ (rid - first) + 1 = omega arith in
    ap (λ n. map row (range_with_len first n)) count ∙ map-range_with_len_more row first (rid - first) rid (omega arith)

pub no_rows : (table first : ℕ) → [] ≡ rows_between table (first, first)
no_rows table first =
    let none : 0 ≡ first - first = omega arith in
    ap (λ n. map (λ rid. record { table = table; rid = rid }) (range_with_len first n)) none
