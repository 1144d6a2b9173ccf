-- Runs and linked rows of a stream that holds rows.
use Rattle.std.proofs.Common.{◌≡◌, ℕ, zero, suc, ◌+◌, ◌<◌, ◌≤◌, ⊎_elim, inl, inr, List, [], ◌∷◌, ◌++◌, Bool, true, false, cond, map, slice_get, Option, Some, None, refl, sym, ap, subst, ◌∙◌, arith, eqb}
use Rattle.std.specs.List.{filter, position, range_with_len}
use Rattle.std.specs.Option.{IsSome, option_and_then, option_map, option_map_or}
use Rattle.std.proofs.lemmas.Bool.{cases_lt, eqb-false}
use Rattle.std.proofs.lemmas.List.FromFn.{filter_of_map_range_with_len_more}
use Rattle.std.proofs.lemmas.List.Quantifiers.{position-Some}
use Rattle.std.proofs.lemmas.Option.{same_Some, slice_get-get_or}
use Rattle.cil_base.specs.Token.{Token}
use Rattle.md_schema.specs.Cell.{cell_of}
use Rattle.md_schema.specs.Column.{ColumnOf}
use Rattle.md_schema.specs.Entry.{column_of, columns_of, is_start, start_column_of}
use Rattle.md_schema.specs.Link.{link_column_of, link_kind_of, link_table_of}
use Rattle.md_schema.specs.LinkedRows.{is_linked, linked_of, rows_to}
use Rattle.md_schema.specs.Reference.{is_named}
use Rattle.md_schema.specs.Runs.{IsRun, MatchesRun, Runs, run_end, table_row_count}
use Rattle.md_schema.specs.declared.column.ColumnKind.{ColumnKind}
use Rattle.md_schema.specs.declared.link.Link.{Link}
use Rattle.md_schema.proofs.LinkLemmas.{link_stands}
use Rattle.md_schema.proofs.RunLemmas.{run_of-runs}
use Rattle.md_write.specs.LinksRead.{LinksRead, names_parent}
use Rattle.md_write.specs.RunsRead.{RunsRead, StartsRise, end_of_run}
use Rattle.md_write.specs.TableRows.{written_number, row_count}
use Rattle.md_write.specs.TablesRead.{HoldsRows}

is-some : {A : Type 0} (o : Option A) (x : A) → o ≡ Some x → IsSome o
is-some None x is = absurd (cc)
is-some (Some y) x is = refl

-- a column that starts runs is one of its table
start-among : (columns : Option (List ColumnOf)) (table column : ℕ)
    → option_and_then (λ (cs : List ColumnOf). position (λ c. is_start table c.kind) cs) columns ≡ Some column
    → IsSome (option_and_then (λ (cs : List ColumnOf). slice_get cs column) columns)
start-among None table column is = absurd (cc)
start-among (Some []) table column is = absurd (cc)
start-among (Some (c ∷ cs)) table column is =
    let found = position-Some (λ (d : ColumnOf). is_start table d.kind) (c ∷ cs) column c is in
    is-some (slice_get (c ∷ cs) column) _ (slice_get-get_or (c ∷ cs) column c found.0)

start-column : (owner table column : ℕ) → start_column_of owner table ≡ Some column → IsSome (column_of owner column)
start-column owner table column is = start-among (columns_of owner) table column is

next-row : (rid count : ℕ) → (rid ≡ count → ⊥) → rid ≤ count → rid + 1 ≤ count
next-row rid count other last =
    ⊎_elim
    (λ (less : rid < count). omega (arith, less))
    (λ (not : count ≤ rid). absurd (other (omega (arith, not, last))))
    (cases_lt rid count)

-- numbers that do not fall are a run
is-run : (rows start end : ℕ) → 1 ≤ start → start ≤ end → end ≤ rows + 1 → IsRun rows start end
is-run rows start end first rise last =
    ⊎_elim
    (λ (less : start < end). inr (first, less, last))
    (λ (not : end ≤ start). inl (omega (arith, not, rise)))
    (cases_lt start end)

-- the run that was written of an owner
run-written : (tables : List (List (List ℕ))) (owner : Token) (table column : ℕ) → StartsRise tables owner.table table column → 1 ≤ owner.rid → owner.rid ≤ row_count tables owner.table
    → IsRun (row_count tables table) (written_number tables owner.table owner.rid column) (end_of_run tables owner.table table column owner.rid)
run-written tables owner table column starts first last =
    let count = row_count tables owner.table in
    let rows = row_count tables table in
    let start = written_number tables owner.table owner.rid column in
    let next = written_number tables owner.table (owner.rid + 1) column in
    let (least, most) = starts.within owner.rid first last in
    elim (eqb owner.rid count) as (λ b. eqb owner.rid count ≡ b → IsRun rows start (cond b (rows + 1) next)) [
      | true ↦ λ e. is-run rows start (rows + 1) least most (omega arith)
      | false ↦ λ e.
          let there = next-row owner.rid count (eqb-false owner.rid count e) last in
          let (more, top) = starts.within (owner.rid + 1) (omega arith) there in
          is-run rows start next least (starts.rise owner.rid first (omega (arith, there))) top
    ] refl

module _ (heap_sizes : ℕ) (tables : List (List (List ℕ))) (stream : List ℕ) (holds : HoldsRows heap_sizes tables stream) where
  end-read : (owner : Token) (table column : ℕ) → IsSome (column_of owner.table column) → owner.rid ≤ row_count tables owner.table
      → run_end stream owner table column ≡ end_of_run tables owner.table table column owner.rid
  unfolding run_end
  end-read owner table column some last =
      let count = row_count tables owner.table in
      let rows = row_count tables table in
      let next = cell_of stream owner.table (owner.rid + 1) column in
      ap (λ (n : ℕ). cond (eqb owner.rid n) (table_row_count stream table + 1) next) (holds.counts owner.table)
      ∙ ap (λ (n : ℕ). cond (eqb owner.rid count) (n + 1) next) (holds.counts table)
      ∙ elim (eqb owner.rid count) as (λ b. eqb owner.rid count ≡ b → cond b (rows + 1) next ≡ cond b (rows + 1) (written_number tables owner.table (owner.rid + 1) column)) [
        | true ↦ λ e. refl
        | false ↦ λ e. holds.cells owner.table (owner.rid + 1) column (omega arith) (next-row owner.rid count (eqb-false owner.rid count e) last) some
      ] refl

  run-read : (owner : Token) (table column : ℕ) → start_column_of owner.table table ≡ Some column → StartsRise tables owner.table table column → 1 ≤ owner.rid → owner.rid ≤ row_count tables owner.table
      → Runs stream owner table (Some (written_number tables owner.table owner.rid column, end_of_run tables owner.table table column owner.rid))
  run-read owner table column is starts first last other at =
      let some = start-column owner.table table column is in
      let start = holds.cells owner.table owner.rid column first last some in
      let end = end-read owner table column some last in
      let rows = holds.counts table in
      let run = run-written tables owner table column starts first last in
      let same : column ≡ other = same_Some column other (sym is ∙ at) in
      let read : IsRun (table_row_count stream table) (cell_of stream owner.table owner.rid column) (run_end stream owner table column) =
      subst (λ (n : ℕ). IsRun n (cell_of stream owner.table owner.rid column) (run_end stream owner table column)) (sym rows)
      (subst (λ (n : ℕ). IsRun (row_count tables table) n (run_end stream owner table column)) (sym start)
      (subst (λ (n : ℕ). IsRun (row_count tables table) (written_number tables owner.table owner.rid column) n) (sym end) run)) in
      subst (λ (c : ℕ). MatchesRun (table_row_count stream table) (cell_of stream owner.table owner.rid c) (run_end stream owner table c) (Some (written_number tables owner.table owner.rid column, end_of_run tables owner.table table column owner.rid))) same
      (sym start, sym end, read)

  -- the rows of a table that pass one test pass the other
  rows-agree : (p q : Token → Bool) (table count : ℕ) → ((rid : ℕ) → 1 ≤ rid → rid ≤ count → p (record { table = table; rid = rid }) ≡ q (record { table = table; rid = rid }))
      → filter p (rows_to table count) ≡ filter q (rows_to table count)
  unfolding rows_to
  rows-agree p q table zero each = refl
  rows-agree p q table (suc n) each =
      let row : ℕ → Token = λ rid. record { table = table; rid = rid } in
      let s : suc n ≡ n + 1 = omega arith in
      let front = rows-agree p q table n (λ rid first last. each rid first (omega (arith, last))) in
      let e : filter p (map row (range_with_len 1 (n + 1))) ≡ filter q (map row (range_with_len 1 (n + 1))) =
      filter_of_map_range_with_len_more p row 1 n (n + 1) (omega arith)
      ∙ ap (λ rows. rows ++ cond (p (row (n + 1))) (row (n + 1) ∷ []) []) front
      ∙ ap (λ (b : Bool). filter q (map row (range_with_len 1 n)) ++ cond b (row (n + 1) ∷ []) []) (each (n + 1) (omega arith) (omega arith))
      ∙ sym (filter_of_map_range_with_len_more q row 1 n (n + 1) (omega arith)) in
      ap (λ (m : ℕ). filter p (map row (range_with_len 1 m))) s ∙ e ∙ ap (λ (m : ℕ). filter q (map row (range_with_len 1 m))) (sym s)

  link-column : (link : Link) → IsSome (column_of (link_table_of link) (link_column_of link))
  link-column link =
      let (kind, is) = link_stands link in
      by (column_of (link_table_of link) (link_column_of link)) kind is
    where
      by : (column : Option ColumnOf) (kind : ColumnKind) → option_map (λ (c : ColumnOf). c.kind) column ≡ Some kind → IsSome column
      by None kind is = absurd (cc)
      by (Some c) kind is = refl

  linked-read : (parent : Token) (link : Link) → linked_of stream parent link ≡ filter (names_parent tables parent link) (rows_to (link_table_of link) (row_count tables (link_table_of link)))
  unfolding linked_of is_linked
  linked-read parent link =
      let table = link_table_of link in
      let column = link_column_of link in
      ap (λ (n : ℕ). filter (is_linked stream parent link) (rows_to table n)) (holds.counts table)
      ∙ rows-agree (is_linked stream parent link) (names_parent tables parent link) table (row_count tables table)
      (λ rid first last. ap (λ (n : ℕ). option_map_or (λ kind. is_named kind n parent) (link_kind_of link) false) (holds.cells table rid column first last (link-column link)))

pub runs_read : RunsRead
runs_read heap_sizes tables stream owner table column holds is starts first last =
    (run_of-runs stream owner table _ (is-some (start_column_of owner.table table) column is)).1
    (run-read heap_sizes tables stream holds owner table column is starts first last)

pub links_read : LinksRead
links_read heap_sizes tables stream parent link holds = linked-read heap_sizes tables stream holds parent link
