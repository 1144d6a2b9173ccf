-- The cells of a row, read column by column up to the first that is at fault, are those that the definition lists.
use Rattle.std.proofs.Common.{◌≡◌, ℕ, ◌+◌, List, [], ◌∷◌, ◌++◌, Option, Some, None, Result, Ok, Err, Bool, true, false, cond, is_none, drop, length, get_or, ◌<◌, ◌≤◌, refl, sym, ap, ◌∙◌, append_assoc, add-one, drop-cons}
use Rattle.std.proofs.lemmas.List.{append-nil, drop_all}
use Rattle.std.specs.List.{enumerate_from, filter, find, flat_map}
use Rattle.std.specs.Option.{option_map, unwrap_or}
use Rattle.cil_base.specs.Token.{Token}
use Rattle.md_schema.specs.Column.{ColumnOf, is_cell_kind, seen_column, seen_columns}
use Rattle.md_schema.specs.Entry.{columns_of}
use Rattle.md_schema.specs.declared.column.Column.{Column}
use Rattle.md_schema.specs.Cell.{cell_of}
use Rattle.node_model.specs.Cells.{cell_said}
use Rattle.node_model.specs.KeyKinds.{table_columns}
use Rattle.node_model.specs.RowFaults.{cell_at, row_fault}
use Rattle.node_model.specs.Rows.{listed_cell, read_row, row_cells, row_slot}
use Rattle.node_model.specs.Streams.{ImageStreams}
use Rattle.node_model.specs.declared.cell.Cell.{Cell}
use Rattle.node_read.specs.inner.Cells.{cells_before, cells_from, cells_slot, one_cell}

-- the cell columns among these, which begin with number n
abbrev cell_pairs : ℕ → List ColumnOf → List (ℕ × ColumnOf)
cell_pairs n cols = filter (λ c. is_cell_kind c.1.kind) (enumerate_from n cols)

abbrev fault_among : ImageStreams → Token → List (ℕ × ColumnOf) → Option ℕ
fault_among s t cs = option_map (λ c. c.0) (find (λ c. is_none (cell_at s t c)) cs)

abbrev cells_among : ImageStreams → Token → List (ℕ × ColumnOf) → List Cell
cells_among s t cs = flat_map (λ c. listed_cell (cell_at s t c)) cs

abbrev outcome : Option ℕ → List Cell → Result (List Cell) ℕ
outcome None cells = Ok cells
outcome (Some n) cells = Err n

one-outcome : (n : ℕ) (cell : Option Cell) (fault : Option ℕ) (cells : List Cell) → one_cell n cell (outcome fault cells) ≡ outcome (cond (is_none cell) (Some n) fault) (listed_cell cell ++ cells)
one-outcome n None fault cells = refl
one-outcome n (Some x) None cells = refl
one-outcome n (Some x) (Some k) cells = refl

first-number : (b : Bool) (n : ℕ) (c : ColumnOf) (rest : Option (ℕ × ColumnOf)) → option_map (λ x. x.0) (cond b (Some (n, c)) rest) ≡ cond b (Some n) (option_map (λ x. x.0) rest)
first-number true n c rest = refl
first-number false n c rest = refl

cell-step : (s : ImageStreams) (t : Token) (n : ℕ) (c : ColumnOf) (cs : List (ℕ × ColumnOf)) → one_cell n (cell_at s t (n, c)) (outcome (fault_among s t cs) (cells_among s t cs)) ≡ outcome (fault_among s t ((n, c) ∷ cs)) (cells_among s t ((n, c) ∷ cs))
cell-step s t n c cs =
    one-outcome n (cell_at s t (n, c)) (fault_among s t cs) (cells_among s t cs)
    ∙ ap (λ f. outcome f (cells_among s t ((n, c) ∷ cs))) (sym (first-number (is_none (cell_at s t (n, c))) n c (find (λ x. is_none (cell_at s t x)) cs)))

column-step : (s : ImageStreams) (t : Token) (n : ℕ) (c : ColumnOf) (cs : List (ℕ × ColumnOf)) (b : Bool) → cond b (one_cell n (cell_at s t (n, c)) (outcome (fault_among s t cs) (cells_among s t cs))) (outcome (fault_among s t cs) (cells_among s t cs)) ≡ outcome (fault_among s t (cond b ((n, c) ∷ cs) cs)) (cells_among s t (cond b ((n, c) ∷ cs) cs))
column-step s t n c cs true = cell-step s t n c cs
column-step s t n c cs false = refl

cells-outcome : (s : ImageStreams) (t : Token) (n : ℕ) (cols : List ColumnOf) → cells_from s t n cols ≡ outcome (fault_among s t (cell_pairs n cols)) (cells_among s t (cell_pairs n cols))
unfolding cells_from
cells-outcome s t n [] = refl
cells-outcome s t n (c ∷ cs) =
    ap (λ r. cond (is_cell_kind c.kind) (one_cell n (cell_at s t (n, c)) r) r) (cells-outcome s t (n + 1) cs)
    ∙ column-step s t n c (cell_pairs (n + 1) cs) (is_cell_kind c.kind)

outcome-slot : (s : ImageStreams) (t : Token) (fault : Option ℕ) → cells_slot t (outcome fault (row_cells s t)) ≡ row_slot s t fault
outcome-slot s t None = refl
outcome-slot s t (Some n) = refl

pub row_said : (s : ImageStreams) (t : Token) (cols : List ColumnOf) → columns_of t.table ≡ Some cols → cells_slot t (cells_from s t 0 cols) ≡ read_row s t
unfolding read_row
row_said s t cols known =
    let same : cols ≡ table_columns t.table = ap (λ o. unwrap_or o []) (sym known) in
    ap (cells_slot t) (cells-outcome s t 0 cols ∙ ap (λ cs. outcome (fault_among s t (cell_pairs 0 cs)) (cells_among s t (cell_pairs 0 cs))) same)
    ∙ outcome-slot s t (row_fault s t)

-- one more cell before those that are still to come
before-push : (cells : List Cell) (cell : Cell) (rest : Result (List Cell) ℕ) → cells_before (cells ++ cell ∷ []) rest ≡ cells_before cells (cells_before (cell ∷ []) rest)
before-push cells cell (Ok more) = ap Ok (append_assoc cells (cell ∷ []) more)
before-push cells cell (Err n) = refl

-- what the columns from number n on say, by the first of them
from-drop : (s : ImageStreams) (t : Token) (n : ℕ) (cols : List Column) (d : Column) → n < length cols → cells_from s t n (seen_columns (drop n cols)) ≡ cond (is_cell_kind (get_or cols n d).kind) (one_cell n (cell_at s t (n, seen_column (get_or cols n d))) (cells_from s t (n + 1) (seen_columns (drop (n + 1) cols)))) (cells_from s t (n + 1) (seen_columns (drop (n + 1) cols)))
unfolding cells_from
from-drop s t n cols d h =
    let first : drop n cols ≡ get_or cols n d ∷ drop (n + 1) cols = rw (add-one, drop-cons cols n d) refl in
    ap (λ xs. cells_from s t n (seen_columns xs)) first

from-skip : (s : ImageStreams) (t : Token) (n : ℕ) (cols : List Column) (d : Column) → n < length cols → is_cell_kind (get_or cols n d).kind ≡ false → cells_from s t n (seen_columns (drop n cols)) ≡ cells_from s t (n + 1) (seen_columns (drop (n + 1) cols))
from-skip s t n cols d h test =
    let rest = cells_from s t (n + 1) (seen_columns (drop (n + 1) cols)) in
    from-drop s t n cols d h ∙ ap (λ b. cond b (one_cell n (cell_at s t (n, seen_column (get_or cols n d))) rest) rest) test

from-cell : (s : ImageStreams) (t : Token) (n : ℕ) (cols : List Column) (d : Column) → n < length cols → is_cell_kind (get_or cols n d).kind ≡ true → cells_from s t n (seen_columns (drop n cols)) ≡ one_cell n (cell_at s t (n, seen_column (get_or cols n d))) (cells_from s t (n + 1) (seen_columns (drop (n + 1) cols)))
from-cell s t n cols d h test =
    let rest = cells_from s t (n + 1) (seen_columns (drop (n + 1) cols)) in
    from-drop s t n cols d h ∙ ap (λ b. cond b (one_cell n (cell_at s t (n, seen_column (get_or cols n d))) rest) rest) test

pub before-none : (rest : Result (List Cell) ℕ) → cells_before [] rest ≡ rest
before-none (Ok more) = refl
before-none (Err n) = refl

-- past the last column there are no cells
from-end : (s : ImageStreams) (t : Token) (n : ℕ) (cols : List Column) → length cols ≤ n → cells_from s t n (seen_columns (drop n cols)) ≡ Ok []
unfolding cells_from
from-end s t n cols past = ap (λ xs. cells_from s t n (seen_columns xs)) (drop_all n cols past)

-- what is read, and what is still to come, where the next column is no cell
pub passed-column : (s : ImageStreams) (t : Token) (n : ℕ) (cols : List Column) (d : Column) (is : Bool) (front : List Cell) (whole : Result (List Cell) ℕ) → n < length cols → is ≡ is_cell_kind (get_or cols n d).kind → is ≡ false → cells_before front (cells_from s t n (seen_columns (drop n cols))) ≡ whole → cells_before front (cells_from s t (n + 1) (seen_columns (drop (n + 1) cols))) ≡ whole
passed-column s t n cols d is front whole h kind test before = ap (cells_before front) (sym (from-skip s t n cols d h (sym kind ∙ test))) ∙ before

-- where the next column is a cell, by what was said of it
by-said : (s : ImageStreams) (t : Token) (n : ℕ) (cols : List Column) (d : Column) (is : Bool) (front : List Cell) (said : Option Cell) (value : ℕ) (whole : Result (List Cell) ℕ) → n < length cols → is ≡ is_cell_kind (get_or cols n d).kind → is ≡ true → said ≡ cell_said s (get_or cols n d).kind value → value ≡ cell_of s.tables t.table t.rid n → cells_before front (cells_from s t n (seen_columns (drop n cols))) ≡ whole → cells_before front (one_cell n said (cells_from s t (n + 1) (seen_columns (drop (n + 1) cols)))) ≡ whole
by-said s t n cols d is front said value whole h kind test says number before =
    let rest = cells_from s t (n + 1) (seen_columns (drop (n + 1) cols)) in
    ap (λ o. cells_before front (one_cell n o rest)) (says ∙ ap (cell_said s (get_or cols n d).kind) number)
    ∙ ap (cells_before front) (sym (from-cell s t n cols d h (sym kind ∙ test)))
    ∙ before

pub read-column : (s : ImageStreams) (t : Token) (n : ℕ) (cols : List Column) (d : Column) (is : Bool) (front new : List Cell) (said : Option Cell) (value : ℕ) (cell : Cell) (whole : Result (List Cell) ℕ) → n < length cols → is ≡ is_cell_kind (get_or cols n d).kind → is ≡ true → said ≡ cell_said s (get_or cols n d).kind value → value ≡ cell_of s.tables t.table t.rid n → cells_before front (cells_from s t n (seen_columns (drop n cols))) ≡ whole → said ≡ Some cell → new ≡ front ++ cell ∷ [] → cells_before new (cells_from s t (n + 1) (seen_columns (drop (n + 1) cols))) ≡ whole
read-column s t n cols d is front new said value cell whole h kind test says number before there pushed =
    let rest = cells_from s t (n + 1) (seen_columns (drop (n + 1) cols)) in
    ap (λ cells. cells_before cells rest) pushed
    ∙ before-push front cell rest
    ∙ ap (λ o. cells_before front (one_cell n o rest)) (sym there)
    ∙ by-said s t n cols d is front said value whole h kind test says number before

pub faulty-column : (s : ImageStreams) (t : Token) (n : ℕ) (cols : List Column) (d : Column) (is : Bool) (front : List Cell) (said : Option Cell) (value : ℕ) (whole : Result (List Cell) ℕ) → n < length cols → is ≡ is_cell_kind (get_or cols n d).kind → is ≡ true → said ≡ cell_said s (get_or cols n d).kind value → value ≡ cell_of s.tables t.table t.rid n → cells_before front (cells_from s t n (seen_columns (drop n cols))) ≡ whole → said ≡ None → Err n ≡ whole
faulty-column s t n cols d is front said value whole h kind test says number before none =
    let rest = cells_from s t (n + 1) (seen_columns (drop (n + 1) cols)) in
    ap (λ o. cells_before front (one_cell n o rest)) (sym none)
    ∙ by-said s t n cols d is front said value whole h kind test says number before

-- where all columns are read
pub last-column : (s : ImageStreams) (t : Token) (n : ℕ) (cols : List Column) (front : List Cell) (whole : Result (List Cell) ℕ) → length cols ≤ n → cells_before front (cells_from s t n (seen_columns (drop n cols))) ≡ whole → Ok front ≡ whole
last-column s t n cols front whole past before = ap Ok (sym (append-nil front)) ∙ ap (cells_before front) (sym (from-end s t n cols past)) ∙ before
