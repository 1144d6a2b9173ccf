-- Lists that are read have rows of one table, each once: ECMA-335 II.22.
use Rattle.std.proofs.Common.{◌≡◌, ◌∙◌, refl, sym, ap, subst, ℕ, zero, suc, ◌+◌, ◌-◌, ◌<◌, ◌≤◌, Bool, true, false, cond, List, [], ◌∷◌, map, Option, Some, None, nat_le, nat_lt, inl, inr, arith}
use Rattle.std.specs.Prelude.{◌==◌, ◌&&◌, ◌||◌, ◌⊎◌}
use Rattle.std.specs.List.{AllByRecursion, IsDistinct, range_with_len}
use Rattle.std.proofs.lemmas.Bool.{and_from, and_parts, eqb-true, leb-true, le-leb, lt-ltb, ltb-true, or_cases}
use Rattle.std.proofs.lemmas.Bool.Decides.{nat_tests}
use Rattle.cil_base.specs.Steps.{◌>>=◌}
use Rattle.cil_base.specs.Token.{Token}
use Rattle.md_schema.specs.Cell.{cell_of}
use Rattle.md_schema.specs.Entry.{start_column_of}
use Rattle.md_schema.specs.Link.{link_table_of}
use Rattle.md_schema.specs.LinkedRows.{is_linked, linked_of, rows_to}
use Rattle.md_schema.specs.Runs.{run_between, run_end, run_of, table_row_count}
use Rattle.md_schema.specs.declared.link.Link.{Link}
use Rattle.node_model.specs.KeyKinds.{is_root_token}
use Rattle.node_model.specs.Keys.{same_token}
use Rattle.node_model.specs.Lists.{read_linked, read_owned, rows_between, run_slot, tokens_slot}
use Rattle.node_model.specs.Nodes.{Nodes}
use Rattle.node_model.specs.Streams.{ImageStreams}
use Rattle.node_model.specs.declared.key.Key.TheVariants.{Owned, Linked}
use Rattle.node_model.specs.declared.slot.Slot.TheVariants as slots
use Rattle.node_model.specs.declared.value.Value.{Value}
use Rattle.node_model.specs.declared.value.Value.TheVariants as values
use Rattle.graph_facts.specs.HoldsValue.{HoldsValue, IsRowOfTable, ListsRows}
use Rattle.graph_facts.proofs.CellReadLemmas.{SameRows}
use Rattle.graph_facts.proofs.ItemLemmas.{all_filter, distinct_filter}

abbrev row_at : ℕ → ℕ → Token
row_at table rid = record { table = table; rid = rid }

rows_there : (n : Nodes) (table start count : ℕ) → 1 ≤ start → start + count ≤ n.rows table + 1 → AllByRecursion (IsRowOfTable n table) (map (row_at table) (range_with_len start count))
rows_there n table start zero low high = tt
rows_there n table start (suc count) low high = (
  record { table_is = refl; there = and_from (nat_lt 0 start) (nat_le start (n.rows table)) (lt-ltb 0 start low) (le-leb start (n.rows table) (omega (arith, high))) },
  rows_there n table (start + 1) count (omega (arith, low)) (omega (arith, high)),
)

other_row : (table low start : ℕ) → low < start → same_token (row_at table low) (row_at table start) ≡ false
other_row table low start less = grind (arith, nat_tests)

rows_apart : (table low start count : ℕ) → low < start → AllByRecursion (λ y. same_token (row_at table low) y ≡ false) (map (row_at table) (range_with_len start count))
rows_apart table low start zero less = tt
rows_apart table low start (suc count) less = (other_row table low start less, rows_apart table low (start + 1) count (omega (arith, less)))

rows_once : (table start count : ℕ) → IsDistinct same_token (map (row_at table) (range_with_len start count))
unfolding IsDistinct
rows_once table start zero = tt
rows_once table start (suc count) = (rows_apart table start (start + 1) count (omega arith), rows_once table (start + 1) count)

-- all rows of a table
pub all_rows : (n : Nodes) (table count : ℕ) → count ≤ n.rows table → ListsRows n table (rows_to table count)
unfolding rows_to
all_rows n table count few = record { rows = rows_there n table 1 count (omega arith) (omega (arith, few)); once = rows_once table 1 count }

-- a run is empty, or of rows that the table has
abbrev RunWithin : ℕ → ℕ × ℕ → Type 0
RunWithin rows run = (run.1 - run.0 ≡ 0) ⊎ ((1 ≤ run.0) × (run.0 + (run.1 - run.0) ≤ rows + 1))

run_test : (rows start end : ℕ) → ((start == end) || (nat_le 1 start && nat_lt start end && nat_le end (rows + 1))) ≡ true → RunWithin rows (start, end)
run_test rows start end t =
    elim (or_cases (start == end) (nat_le 1 start && nat_lt start end && nat_le end (rows + 1)) t) [
      | inl same ↦ inl (let is = eqb-true start end same in omega (arith, is))
      | inr rises ↦
          let outer = and_parts (nat_le 1 start && nat_lt start end) (nat_le end (rows + 1)) rises in
          let inner = and_parts (nat_le 1 start) (nat_lt start end) outer.0 in
          let low = leb-true 1 start inner.0 in
          let up = ltb-true start end inner.1 in
          let high = leb-true end (rows + 1) outer.1 in
          inr (low, omega (arith, up, high))
    ]

between_within : (rows start end : ℕ) (run : ℕ × ℕ) → run_between rows start end ≡ Some run → RunWithin rows run
between_within rows start end run e = by ((start == end) || (nat_le 1 start && nat_lt start end && nat_le end (rows + 1))) refl e
  where
    same_run : (x y : ℕ × ℕ) → Some x ≡ Some y → x ≡ y
    same_run x y e = cc

    by : (b : Bool) → ((start == end) || (nat_le 1 start && nat_lt start end && nat_le end (rows + 1))) ≡ b → cond b (Some (start, end)) None ≡ Some run → RunWithin rows run
    by true is e = subst (RunWithin rows) (same_run (start, end) run e) (run_test rows start end is)
    by false is e = absurd cc

run_within : (stream : List ℕ) (t : Token) (table : ℕ) (run : ℕ × ℕ) → run_of stream t table ≡ Some run → RunWithin (table_row_count stream table) run
unfolding run_of
run_within stream t table run e = by (start_column_of t.table table) e
  where
    by : (o : Option ℕ) → (o >>= λ column. run_between (table_row_count stream table) (cell_of stream t.table t.rid column) (run_end stream t table column)) ≡ Some run
        → RunWithin (table_row_count stream table) run
    by None e = absurd cc
    by (Some column) e = between_within (table_row_count stream table) (cell_of stream t.table t.rid column) (run_end stream t table column) run e

between_rows : (n : Nodes) (table rows : ℕ) (run : ℕ × ℕ) → rows ≡ n.rows table → RunWithin rows run → ListsRows n table (rows_between table run)
between_rows n table rows run same (inl empty) =
    record { rows = subst (λ k. AllByRecursion (IsRowOfTable n table) (map (row_at table) (range_with_len run.0 k))) (sym empty) tt; once = rows_once table run.0 (run.1 - run.0) }
between_rows n table rows run same (inr some) =
    record { rows = rows_there n table run.0 (run.1 - run.0) some.0 (omega (arith, some.1, same)); once = rows_once table run.0 (run.1 - run.0) }

same_value : (x y : Value) → slots.Value x ≡ slots.Value y → x ≡ y
same_value x y e = cc

pub owned_holds : (s : ImageStreams) (n : Nodes) (t : Token) (table : ℕ) (v : Value) → SameRows s.tables n → read_owned s t table ≡ slots.Value v → HoldsValue n (Owned t table) v
unfolding read_owned
owned_holds s n t table v rows e = by (is_root_token t) e
  where
    by_run : (o : Option (ℕ × ℕ)) → run_of s.tables t table ≡ o → run_slot t table o ≡ slots.Value v → HoldsValue n (Owned t table) v
    by_run None is e = absurd cc
    by_run (Some run) is e =
        subst (HoldsValue n (Owned t table)) (same_value (values.Tokens (rows_between table run)) v e) (between_rows n table (table_row_count s.tables table) run (rows table) (run_within s.tables t table run is))

    by : (b : Bool) → cond b (tokens_slot (rows_to table (table_row_count s.tables table))) (run_slot t table (run_of s.tables t table)) ≡ slots.Value v → HoldsValue n (Owned t table) v
    by true e =
        subst (HoldsValue n (Owned t table)) (same_value (values.Tokens (rows_to table (table_row_count s.tables table))) v e) (all_rows n table (table_row_count s.tables table) (omega (arith, rows table)))
    by false e = by_run (run_of s.tables t table) refl e

linked_rows : (s : ImageStreams) (n : Nodes) (t : Token) (l : Link) → SameRows s.tables n → ListsRows n (link_table_of l) (linked_of s.tables t l)
unfolding linked_of
linked_rows s n t l rows =
    let all = all_rows n (link_table_of l) (table_row_count s.tables (link_table_of l)) (omega (arith, rows (link_table_of l))) in
    let list = rows_to (link_table_of l) (table_row_count s.tables (link_table_of l)) in
    record {
      rows = all_filter (IsRowOfTable n (link_table_of l)) (is_linked s.tables t l) list all.rows;
      once = distinct_filter (is_linked s.tables t l) list all.once;
    }

pub linked_holds : (s : ImageStreams) (n : Nodes) (t : Token) (l : Link) (v : Value) → SameRows s.tables n → read_linked s t l ≡ slots.Value v → HoldsValue n (Linked t l) v
unfolding read_linked
linked_holds s n t l v rows e = subst (HoldsValue n (Linked t l)) (same_value (values.Tokens (linked_of s.tables t l)) v e) (linked_rows s n t l rows)
