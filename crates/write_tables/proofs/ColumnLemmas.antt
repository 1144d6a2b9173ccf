-- The columns of a table with all that its rows need, and the rows by them.
use Rattle.std.proofs.Common.{◌≡◌, ◌∙◌, sym, ap, refl, ℕ, zero, suc, ◌+◌, ◌<◌, List, [], ◌∷◌, ◌++◌, Bool, true, false, cond}
use Rattle.std.proofs.Common.{length, take, get_or, map, Option, Some, None, arith, zero-add, add-one, add-zero}
use Rattle.std.specs.Prelude.{◌==◌, slice_get}
use Rattle.std.specs.List.{count_by, enumerate_from, filter, flat_map, position_from, range_with_len}
use Rattle.std.specs.Option.{unwrap_or}
use Rattle.std.proofs.lemmas.Bool.Decides.{nat_tests}
use Rattle.std.proofs.lemmas.Iterator.Adapters.{position_from-zero}
use Rattle.std.proofs.lemmas.List.{get_or-map, length-map, map_push, take-map}
use Rattle.std.proofs.lemmas.List.Sums.{sum_by-cons}
use Rattle.std.proofs.lemmas.List.FromFn.{get_or-enumerate_from, length-enumerate_from}
use Rattle.std.proofs.lemmas.List.Folds.{flat_map-map}
use Rattle.std.proofs.lemmas.Simd.{map-map}
use Rattle.cil_base.specs.Token.{Token}
use Rattle.cil_base.proofs.StepLemmas.{range_more}
use Rattle.md_heaps.specs.LaidHeaps.{HeapEntries}
use Rattle.md_schema.specs.Column.{ColumnOf, is_cell_kind, seen_column, seen_columns}
use Rattle.md_schema.specs.declared.column.Column.{Column}
use Rattle.md_schema.specs.declared.column.ColumnKind.{ColumnKind}
use Rattle.node_model.specs.KeyKinds.{table_columns}
use Rattle.write_plan.specs.Planned.{Planned}
use Rattle.write_plan.specs.Written.{rows_in}
use Rattle.write_tables.specs.Contents.{HeapContent, column_contents, row_contents, table_contents}
use Rattle.write_tables.specs.RowColumns.{cells_held}
use Rattle.write_tables.specs.WrittenRows.{column_number, numbers_by_place, row_numbers, table_numbers}
use Rattle.write_tables.specs.declared.placed.Placed.{Placed}
use Rattle.write_tables.specs.declared.table_column.TableColumn.{TableColumn}
use Rattle.write_tables.specs.inner.Gathered.{Gathers}
use Rattle.write_tables.specs.inner.PlacedColumns.{held_contents, held_in, held_number, held_numbers, held_row, placed_column}
use Rattle.write_tables.specs.inner.PlacedColumns.{cell_place_among, placed_columns}
use Rattle.write_tables.proofs.GatherLemmas.{gathers_as, item_more}

-- an item of a numbered list, as a loop has it
pub numbered_more : (X : Type 0) (xs : List X) (i : ℕ) (x : X) → i < length xs → x ≡ get_or xs i x
    → take (i + 1) (enumerate_from 0 xs) ≡ take i (enumerate_from 0 xs) ++ (i, x) ∷ []
numbered_more X xs i x below is =
    let item : get_or (enumerate_from 0 xs) i (i, x) ≡ (i, x) =
    get_or-enumerate_from 0 xs i (i, x) below ∙ ap (λ n. (n, get_or xs i x)) (zero-add i) ∙ ap (λ y. (i, y)) (sym is) in
    item_more (ℕ × X) (enumerate_from 0 xs) i (i, x) (omega (arith, below, length-enumerate_from 0 xs)) (sym item)

map_same : (X A : Type 0) (f g : X → A) → ((x : X) → f x ≡ g x) → (xs : List X) → map f xs ≡ map g xs
map_same X A f g same [] = refl
map_same X A f g same (x ∷ xs) = ap (λ y. y ∷ map f xs) (same x) ∙ ap (λ ys. g x ∷ ys) (map_same X A f g same xs)

flat_map_same : (X A : Type 0) (f g : X → List A) → ((x : X) → f x ≡ g x) → (xs : List X) → flat_map f xs ≡ flat_map g xs
flat_map_same X A f g same [] = refl
flat_map_same X A f g same (x ∷ xs) = ap (λ y. y ++ flat_map f xs) (same x) ∙ ap (λ ys. g x ++ ys) (flat_map_same X A f g same xs)

-- what a row puts in, and its numbers, by the columns of its table
row_same : (plan : Planned) (placed : Placed) (table : ℕ) (t : Token)
    → held_row plan (placed_columns plan placed table (table_columns table)) t ≡ row_contents plan table t
row_same plan placed table t =
    flat_map-map (held_contents plan t (cells_held plan t)) (placed_column plan placed table (table_columns table)) (enumerate_from 0 (table_columns table))
    ∙ sym (flat_map-map (column_contents plan)
    (λ c. held_in t (cells_held plan t) (placed_column plan placed table (table_columns table) c)) (enumerate_from 0 (table_columns table)))

numbers_same : (plan : Planned) (placed : Placed) (heaps : HeapEntries) (table : ℕ) (row : ℕ × Token)
    → held_numbers plan heaps (placed_columns plan placed table (table_columns table)) row ≡ row_numbers plan placed heaps table row
numbers_same plan placed heaps table row =
    map-map (held_number plan heaps row.0 row.1 (cells_held plan row.1)) (placed_column plan placed table (table_columns table)) (enumerate_from 0 (table_columns table))
    ∙ sym (map-map
    (λ column. column_number plan heaps (unwrap_or (slice_get (numbers_by_place plan placed table column.kind) row.0) 0) column)
    (λ c. held_in row.1 (cells_held plan row.1) (placed_column plan placed table (table_columns table) c)) (enumerate_from 0 (table_columns table)))

pub table_same : (plan : Planned) (placed : Placed) (table : ℕ)
    → flat_map (held_row plan (placed_columns plan placed table (table_columns table))) (rows_in plan.lists table) ≡ table_contents plan table
table_same plan placed table =
    flat_map_same Token HeapContent (held_row plan (placed_columns plan placed table (table_columns table))) (row_contents plan table)
    (row_same plan placed table) (rows_in plan.lists table)

pub table_numbers_same : (plan : Planned) (placed : Placed) (heaps : HeapEntries) (table : ℕ)
    → map (held_numbers plan heaps (placed_columns plan placed table (table_columns table))) (enumerate_from 0 (rows_in plan.lists table))
    ≡ table_numbers plan placed heaps table
table_numbers_same plan placed heaps table =
    map_same (ℕ × Token) (List ℕ) (held_numbers plan heaps (placed_columns plan placed table (table_columns table)))
    (row_numbers plan placed heaps table) (numbers_same plan placed heaps table) (enumerate_from 0 (rows_in plan.lists table))

-- the places of cells: as many columns with cells stand before
abbrev has_cell : ColumnOf → Bool
has_cell column = is_cell_kind column.kind

abbrev cells_from : ℕ → List ColumnOf → List (ℕ × ColumnOf)
cells_from n columns = filter (λ c. is_cell_kind c.1.kind) (enumerate_from n columns)

none_before : (columns : List ColumnOf) (n k m : ℕ) → m < n → position_from (λ c. c.0 == m) k (cells_from n columns) ≡ None
none_before [] n k m less = refl
none_before (c ∷ cs) n k m less =
    let other : (n == m) ≡ false = grind (arith, nat_tests) in
    elim (has_cell c) as (λ b. position_from (λ d. d.0 == m) k (cond b ((n, c) ∷ cells_from (n + 1) cs) (cells_from (n + 1) cs)) ≡ None) [
      | true ↦ ap (λ b. cond b (Some k) (position_from (λ d. d.0 == m) (k + 1) (cells_from (n + 1) cs))) other
          ∙ none_before cs (n + 1) (k + 1) m (omega arith)
      | false ↦ none_before cs (n + 1) k m (omega arith)
    ]

place_from : (columns : List ColumnOf) (n k m i : ℕ) (d : ColumnOf) → m ≡ n + i → i < length columns
    → position_from (λ c. c.0 == m) k (cells_from n columns)
    ≡ cond (has_cell (get_or columns i d)) (Some (k + length (filter has_cell (take i columns)))) None
place_from [] n k m i d at below = absurd (omega (arith, below))
place_from (c ∷ cs) n k m zero d at below =
    let here : (n == m) ≡ true = grind (arith, nat_tests) in
    elim (has_cell c) as (λ b. position_from (λ x. x.0 == m) k (cond b ((n, c) ∷ cells_from (n + 1) cs) (cells_from (n + 1) cs)) ≡ cond b (Some (k + 0)) None) [
      | true ↦ ap (λ b. cond b (Some k) (position_from (λ x. x.0 == m) (k + 1) (cells_from (n + 1) cs))) here ∙ ap Some (sym (add-zero k))
      | false ↦ none_before cs (n + 1) k m (omega (arith, at))
    ]
place_from (c ∷ cs) n k m (suc i) d at below =
    let other : (n == m) ≡ false = grind (arith, nat_tests) in
    let before = filter has_cell (take i cs) in
    let counted : k + 1 + length before ≡ k + suc (length before) = omega arith in
    elim (has_cell c) as (λ b. position_from (λ x. x.0 == m) k (cond b ((n, c) ∷ cells_from (n + 1) cs) (cells_from (n + 1) cs))
    ≡ cond (has_cell (get_or cs i d)) (Some (k + length (cond b (c ∷ before) before))) None) [
      | true ↦ ap (λ b. cond b (Some k) (position_from (λ x. x.0 == m) (k + 1) (cells_from (n + 1) cs))) other
          ∙ place_from cs (n + 1) (k + 1) m i d (omega (arith, at)) (omega (arith, below))
          ∙ ap (λ l. cond (has_cell (get_or cs i d)) (Some l) None) counted
      | false ↦ place_from cs (n + 1) k m i d (omega (arith, at)) (omega (arith, below))
    ]

pub cell_place_is : (columns : List ColumnOf) (i : ℕ) (d : ColumnOf) → i < length columns
    → cell_place_among columns i ≡ cond (has_cell (get_or columns i d)) (Some (length (filter has_cell (take i columns)))) None
cell_place_is columns i d below =
    position_from-zero (λ c. c.0 == i) (cells_from 0 columns) ∙ place_from columns 0 0 i i d (sym (zero-add i)) below
    ∙ ap (λ n. cond (has_cell (get_or columns i d)) (Some n) None) (zero-add (length (filter has_cell (take i columns))))

-- what the rows of a table put in, and their numbers, by its columns
pub table_gathers : (plan : Planned) (placed : Placed) (table : ℕ) (columns : List TableColumn) (rows : List Token) (old new : HeapEntries)
    (numbers : List (List ℕ)) → columns ≡ placed_columns plan placed table (table_columns table) → rows ≡ rows_in plan.lists table
    → Gathers (List (List ℕ)) old new (flat_map (held_row plan columns) rows)
    (λ later. map (held_numbers plan later columns) (enumerate_from 0 rows)) numbers
    → Gathers (List (List ℕ)) old new (table_contents plan table) (λ later. table_numbers plan placed later table) numbers
table_gathers plan placed table columns rows old new numbers known kept g =
    gathers_as (List (List ℕ)) old new (flat_map (held_row plan columns) rows) (table_contents plan table)
    (λ later. map (held_numbers plan later columns) (enumerate_from 0 rows)) (λ later. table_numbers plan placed later table) numbers
    (ap (λ cs. flat_map (held_row plan cs) rows) known
    ∙ ap (flat_map (held_row plan (placed_columns plan placed table (table_columns table)))) kept ∙ table_same plan placed table)
    (λ later. ap (λ cs. map (held_numbers plan later cs) (enumerate_from 0 rows)) known
    ∙ ap (λ ts. map (held_numbers plan later (placed_columns plan placed table (table_columns table))) (enumerate_from 0 ts)) kept
    ∙ table_numbers_same plan placed later table)
    g

-- the numbers of tables below one more
pub range_next : (n : ℕ) → range_with_len 0 (n + 1) ≡ range_with_len 0 n ++ n ∷ []
range_next n =
    ap (range_with_len 0) (add-one n) ∙ range_more 0 n ∙ ap (λ m. range_with_len 0 n ++ m ∷ []) (zero-add n)

-- the place of a cell, as the code counts it
cells_counted : (columns : List Column)
    → length (filter has_cell (seen_columns columns)) ≡ count_by (λ (column : Column). is_cell_kind column.kind) columns
cells_counted [] = refl
cells_counted (c ∷ columns) =
    let others = filter has_cell (seen_columns columns) in
    let count = count_by (λ (column : Column). is_cell_kind column.kind) columns in
    let rest : length others ≡ count = cells_counted columns in
    let step : length (cond (is_cell_kind c.kind) (seen_column c ∷ others) others) ≡ cond (is_cell_kind c.kind) 1 0 + count =
    elim (is_cell_kind c.kind) as (λ b. length (cond b (seen_column c ∷ others) others) ≡ cond b 1 0 + count) [
      | true ↦ omega arith
      | false ↦ omega arith
    ] in
    step ∙ sym (sum_by-cons (λ (column : Column). cond (is_cell_kind column.kind) 1 0) c columns)

column_place : (columns : List Column) (i : ℕ) (d : Column) → i < length columns
    → cell_place_among (seen_columns columns) i
    ≡ cond (is_cell_kind (get_or columns i d).kind) (Some (count_by (λ (column : Column). is_cell_kind column.kind) (take i columns))) None
column_place columns i d below =
    cell_place_is (seen_columns columns) i (seen_column d) (omega (arith, below, length-map columns seen_column))
    ∙ ap (λ (column : ColumnOf). cond (is_cell_kind column.kind) (Some (length (filter has_cell (take i (seen_columns columns))))) None)
    (get_or-map seen_column columns i d (seen_column d) below)
    ∙ ap (λ (cs : List ColumnOf). cond (is_cell_kind (get_or columns i d).kind) (Some (length (filter has_cell cs))) None) (take-map seen_column i columns)
    ∙ ap (λ n. cond (is_cell_kind (get_or columns i d).kind) (Some n) None) (cells_counted (take i columns))

pub place_there : (columns : List Column) (i : ℕ) (d : Column) (n count : ℕ) → i < length columns → is_cell_kind (get_or columns i d).kind ≡ true
    → n ≡ i → count ≡ count_by (λ (column : Column). is_cell_kind column.kind) (take n columns)
    → Some count ≡ cell_place_among (seen_columns columns) i
place_there columns i d n count below there same is =
    ap Some (is ∙ ap (λ m. count_by (λ (column : Column). is_cell_kind column.kind) (take m columns)) same)
    ∙ sym (column_place columns i d below
    ∙ ap (λ b. cond b (Some (count_by (λ (column : Column). is_cell_kind column.kind) (take i columns))) None) there)

pub no_place : (columns : List Column) (i : ℕ) (d : Column) → i < length columns → is_cell_kind (get_or columns i d).kind ≡ false
    → None ≡ cell_place_among (seen_columns columns) i
no_place columns i d below none =
    sym (column_place columns i d below
    ∙ ap (λ b. cond b (Some (count_by (λ (column : Column). is_cell_kind column.kind) (take i columns))) None) none)

-- a column more, with all that its rows need
abbrev pub made_column : ColumnKind → Option ℕ → List ℕ → TableColumn
made_column kind cell numbers = record { kind = kind; cell = cell; numbers = numbers }

pub columns_more : (plan : Planned) (placed : Placed) (table : ℕ) (columns : List Column) (i : ℕ) (d : Column) (cell : Option ℕ) (numbers : List ℕ)
    (all pushed : List TableColumn) → i < length columns → cell ≡ cell_place_among (seen_columns columns) i
    → numbers ≡ numbers_by_place plan placed table (get_or columns i d).kind
    → pushed ≡ all ++ made_column (get_or columns i d).kind cell numbers ∷ []
    → all ≡ map (placed_column plan placed table (seen_columns columns)) (take i (enumerate_from 0 (seen_columns columns)))
    → pushed ≡ map (placed_column plan placed table (seen_columns columns)) (take (i + 1) (enumerate_from 0 (seen_columns columns)))
columns_more plan placed table columns i d cell numbers all pushed below place known push was =
    let seen : List ColumnOf = seen_columns columns in
    let x : Column = get_or columns i d in
    let make : ℕ × ColumnOf → TableColumn = placed_column plan placed table seen in
    let front : List (ℕ × ColumnOf) = take i (enumerate_from 0 seen) in
    push ∙ ap (λ (xs : List TableColumn). xs ++ made_column x.kind cell numbers ∷ []) was
    ∙ ap (λ (o : Option ℕ). map make front ++ made_column x.kind o numbers ∷ []) place
    ∙ ap (λ (ns : List ℕ). map make front ++ made_column x.kind (cell_place_among seen i) ns ∷ []) known
    ∙ sym (map_push make front (i, seen_column x))
    ∙ ap (map make) (sym (numbered_more ColumnOf seen i (seen_column x) (omega (arith, below, length-map columns seen_column))
    (sym (get_or-map seen_column columns i d (seen_column x) below))))
