-- The cell columns of a table, from a number on, and the one of a number.
use Rattle.std.proofs.Common.{◌≡◌, ℕ, zero, suc, ◌+◌, ◌<◌, ◌≤◌, ◌==◌, nat_eq, List, [], ◌∷◌, true, false, cond, Option, Some, None, map, drop, get_or, length, slice_get, refl, sym, ap, subst, ◌∙◌, arith}
use Rattle.std.specs.List.{enumerate_from, filter, zip}
use Rattle.std.proofs.lemmas.Bool.Decides.{nat_tests}
use Rattle.std.proofs.lemmas.List.{drop_more, get_or_default, get_or-map, length-map}
use Rattle.std.proofs.lemmas.Option.{slice_get_past, slice_get_read}
use Rattle.md_schema.specs.Column.{ColumnOf, is_cell_kind, seen_column, seen_columns}
use Rattle.md_schema.specs.declared.column.Column.{Column}
use Rattle.node_model.specs.PlacedCells.{placed_cell}
use Rattle.node_model.specs.declared.cell.Cell.{Cell}
use Rattle.graph_edits.specs.inner.CellsLeft.{cell_columns_from}

-- one column more
columns_more : (columns : List Column) (i : ℕ) (d : Column) → i < length columns
    → cell_columns_from i (seen_columns columns)
    ≡ cond (is_cell_kind (get_or columns i d).kind) ((i, seen_column (get_or columns i d)) ∷ cell_columns_from (i + 1) (seen_columns columns))
    (cell_columns_from (i + 1) (seen_columns columns))
columns_more columns i d within =
    let seen : i < length (seen_columns columns) = subst (λ (m : ℕ). i < m) (sym (length-map columns seen_column)) within in
    let here : get_or (seen_columns columns) i (seen_column d) ≡ seen_column (get_or columns i d) =
    get_or-map seen_column columns i d (seen_column d) within in
    ap (λ ds. filter (λ (c : ℕ × ColumnOf). is_cell_kind c.1.kind) (enumerate_from i ds))
    (drop_more (seen_columns columns) i (seen_column d) seen ∙ ap (λ x. x ∷ drop (i + 1) (seen_columns columns)) here)

pub column_here : (columns : List Column) (i : ℕ) (d : Column) → i < length columns → is_cell_kind (get_or columns i d).kind ≡ true
    → cell_columns_from i (seen_columns columns) ≡ (i, seen_column (get_or columns i d)) ∷ cell_columns_from (i + 1) (seen_columns columns)
column_here columns i d within is =
    columns_more columns i d within
    ∙ ap (λ b. cond b ((i, seen_column (get_or columns i d)) ∷ cell_columns_from (i + 1) (seen_columns columns)) (cell_columns_from (i + 1) (seen_columns columns))) is

pub column_first : (columns : List Column) (seen : List ColumnOf) (i : ℕ) (d : Column) → seen_columns columns ≡ seen → i < length columns
    → is_cell_kind (get_or columns i d).kind ≡ true → cell_columns_from i seen ≡ (i, seen_column (get_or columns i d)) ∷ cell_columns_from (i + 1) seen
column_first columns seen i d are within is =
    subst (λ (cs : List ColumnOf). cell_columns_from i cs ≡ (i, seen_column (get_or columns i d)) ∷ cell_columns_from (i + 1) cs) are (column_here columns i d within is)

pub column_passed : (columns : List Column) (i : ℕ) (d : Column) → i < length columns → is_cell_kind (get_or columns i d).kind ≡ false
    → cell_columns_from i (seen_columns columns) ≡ cell_columns_from (i + 1) (seen_columns columns)
column_passed columns i d within is =
    columns_more columns i d within
    ∙ ap (λ b. cond b ((i, seen_column (get_or columns i d)) ∷ cell_columns_from (i + 1) (seen_columns columns)) (cell_columns_from (i + 1) (seen_columns columns))) is

-- the columns of a number below that from which they are counted
below : (columns : List ColumnOf) (n m : ℕ) → m < n → filter (λ c. c.0 == m) (filter (λ c. is_cell_kind c.1.kind) (enumerate_from n columns)) ≡ []
below [] n m h = refl
below (c ∷ columns) n m h =
    let others = filter (λ (c : ℕ × ColumnOf). is_cell_kind c.1.kind) (enumerate_from (n + 1) columns) in
    let rest : filter (λ c. c.0 == m) others ≡ [] = below columns (n + 1) m (omega arith) in
    let differs : nat_eq n m ≡ false = grind (arith, nat_tests) in
    elim (is_cell_kind c.kind) as (λ b. filter (λ c. c.0 == m) (cond b ((n, c) ∷ others) others) ≡ []) [
      | true ↦ rw differs rest
      | false ↦ rest
    ]

-- the column, if it is a cell column
abbrev picked : ℕ → Option ColumnOf → List (ℕ × ColumnOf)
picked m None = []
picked m (Some c) = cond (is_cell_kind c.kind) ((m, c) ∷ []) []

columns_picked : (columns : List ColumnOf) (n k m : ℕ) → m ≡ n + k
    → filter (λ c. c.0 == m) (filter (λ c. is_cell_kind c.1.kind) (enumerate_from n columns)) ≡ picked m (slice_get columns k)
columns_picked [] n k m e = refl
columns_picked (c ∷ columns) n zero m e =
    let others = filter (λ (c : ℕ × ColumnOf). is_cell_kind c.1.kind) (enumerate_from (n + 1) columns) in
    let same : n ≡ m = omega arith in
    let is : nat_eq n m ≡ true = grind (arith, nat_tests) in
    let rest : filter (λ c. c.0 == m) others ≡ [] = below columns (n + 1) m (omega arith) in
    elim (is_cell_kind c.kind) as (λ b. filter (λ c. c.0 == m) (cond b ((n, c) ∷ others) others) ≡ cond b ((m, c) ∷ []) []) [
      | true ↦ rw (is, rest) (ap (λ i. (i, c) ∷ []) same)
      | false ↦ rest
    ]
columns_picked (c ∷ columns) n (suc k) m e =
    let others = filter (λ (c : ℕ × ColumnOf). is_cell_kind c.1.kind) (enumerate_from (n + 1) columns) in
    let differs : nat_eq n m ≡ false = grind (arith, nat_tests) in
    let rest : filter (λ c. c.0 == m) others ≡ picked m (slice_get columns k) = columns_picked columns (n + 1) k m (omega arith) in
    elim (is_cell_kind c.kind) as (λ b. filter (λ c. c.0 == m) (cond b ((n, c) ∷ others) others) ≡ picked m (slice_get columns k)) [
      | true ↦ rw differs rest
      | false ↦ rest
    ]

-- the cell columns of a number, by the column there
abbrev pub numbered : ℕ → List ColumnOf → List (ℕ × ColumnOf)
numbered i columns = filter (λ c. c.0 == i) (filter (λ c. is_cell_kind c.1.kind) (enumerate_from 0 columns))

picked_at : (columns : List Column) (i : ℕ) (d : Column) → i < length columns → numbered i (seen_columns columns) ≡ picked i (Some (seen_column (get_or columns i d)))
picked_at columns i d within =
    let seen : i < length (seen_columns columns) = subst (λ (m : ℕ). i < m) (sym (length-map columns seen_column)) within in
    let here : seen_column (get_or columns i d) ≡ get_or (seen_columns columns) i (seen_column (get_or columns i d)) =
    sym (get_or_default (seen_columns columns) i (seen_column (get_or columns i d)) (seen_column d) seen ∙ get_or-map seen_column columns i d (seen_column d) within) in
    columns_picked (seen_columns columns) 0 i i (omega arith)
    ∙ ap (picked i) (slice_get_read (seen_columns columns) (length (seen_columns columns)) i (seen_column (get_or columns i d)) refl seen here)

pub column_only : (columns : List Column) (i : ℕ) (d : Column) → i < length columns → is_cell_kind (get_or columns i d).kind ≡ true
    → numbered i (seen_columns columns) ≡ (i, seen_column (get_or columns i d)) ∷ []
column_only columns i d within is = picked_at columns i d within ∙ ap (λ b. cond b ((i, seen_column (get_or columns i d)) ∷ []) []) is

pub column_no_cell : (columns : List Column) (i : ℕ) (d : Column) → i < length columns → is_cell_kind (get_or columns i d).kind ≡ false
    → numbered i (seen_columns columns) ≡ []
column_no_cell columns i d within is = picked_at columns i d within ∙ ap (λ b. cond b ((i, seen_column (get_or columns i d)) ∷ []) []) is

pub column_beyond : (columns : List Column) (i : ℕ) → length columns ≤ i → numbered i (seen_columns columns) ≡ []
column_beyond columns i past =
    let seen : length (seen_columns columns) ≤ i = subst (λ (m : ℕ). m ≤ i) (sym (length-map columns seen_column)) past in
    columns_picked (seen_columns columns) 0 i i (omega arith) ∙ ap (picked i) (slice_get_past (seen_columns columns) i seen)

-- no columns for no cells
pub zip_none : {A B : Type 0} (xs : List A) → zip {K = A} {X = B} xs [] ≡ []
zip_none [] = refl
zip_none (x ∷ xs) = refl

-- one cell, for the column that is the first
pub one_left : (table number : ℕ) (column : ColumnOf) (cell : Cell) (columns : List ColumnOf)
    → cell_columns_from number columns ≡ (number, column) ∷ cell_columns_from (number + 1) columns
    → map (placed_cell table) (zip (cell_columns_from number columns) (cell ∷ [])) ≡ placed_cell table ((number, column), cell) ∷ []
one_left table number column cell columns first =
    ap (λ cs. map (placed_cell table) (zip cs (cell ∷ []))) first
    ∙ ap (λ xs. placed_cell table ((number, column), cell) ∷ map (placed_cell table) xs) (zip_none (cell_columns_from (number + 1) columns))
