-- Where cells stand in a stream that was opened.
use Rattle.std.proofs.Common.{◌≡◌, ℕ, ◌+◌, ◌-◌, ◌*◌, ◌<◌, ◌≤◌, ⊎_elim, List, Option, Some, None, map, take, length, slice_get, refl, sym, ap, subst, ◌∙◌, arith}
use Rattle.std.specs.Option.{IsSome, option_and_then, option_map_or}
use Rattle.std.specs.List.{range_with_len, sum_by}
use Rattle.std.proofs.Math.Nat.{add-mul, mul-le-mul_right}
use Rattle.std.proofs.lemmas.Bool.{cases_lt}
use Rattle.std.proofs.lemmas.List.{get_or_past, take-map}
use Rattle.std.proofs.lemmas.List.FromFn.{get_or-map-range_with_len, length-map-range_with_len}
use Rattle.std.proofs.lemmas.List.Sums.{sum_by_more_le}
use Rattle.std.proofs.lemmas.Option.{get_or_from_slice_get, slice_get_within}
use Rattle.md_schema.specs.Column.{ColumnOf, seen_column, seen_columns}
use Rattle.md_schema.specs.Entry.{column_of, columns_of}
use Rattle.md_schema.specs.Width.{rows_of, column_width_of}
use Rattle.md_schema.specs.declared.column.Column.{Column}
use Rattle.md_schema.specs.declared.column_width.Counts.{Counts}
use Rattle.md_schema.specs.Cell.{IsRowOf, offset_of, place_of}
use Rattle.md_schema.specs.Header.{count_of}
use Rattle.md_schema.specs.Layout.{Head, OpensTables, columns_width, first_place, head_of, table_row_width}
use Rattle.md_tables.proofs.LayoutLemmas.{columns_width-seen, first_place-mono, first_place-more}

-- the rows of a table, as the stream counts them
pub head_rows : (stream : List ℕ) (table : ℕ) → table < 64 → rows_of (head_of stream).counts table ≡ count_of stream table
unfolding head_of
head_rows stream table h = get_or-map-range_with_len (count_of stream) 0 64 table table 0 h (omega arith)

pub head_past : (stream : List ℕ) (table : ℕ) → 64 ≤ table → rows_of (head_of stream).counts table ≡ 0
unfolding head_of
head_past stream table h =
    let long = length-map-range_with_len (count_of stream) 0 64 in
    get_or_past (map (count_of stream) (range_with_len 0 64)) table 0 (omega (arith, long))

pub few_rows : (stream : List ℕ) (head : Head) (table : ℕ) → OpensTables stream head → rows_of head.counts table < 16777216
few_rows stream head table o =
    let seen : rows_of head.counts table ≡ rows_of (head_of stream).counts table = ap (λ h. rows_of h.counts table) o.seen in
    ⊎_elim
    (λ (h : table < 64). let e = head_rows stream table h in let few = o.whole.few table h in omega (arith, seen, e, few))
    (λ (h : 64 ≤ table). let e = head_past stream table h in omega (arith, seen, e))
    (cases_lt table 64)

pub table_below : (stream : List ℕ) (head : Head) (table rid : ℕ) → OpensTables stream head → IsRowOf head table rid → table < 64
table_below stream head table rid o r =
    let seen : rows_of head.counts table ≡ rows_of (head_of stream).counts table = ap (λ h. rows_of h.counts table) o.seen in
    ⊎_elim
    (λ (h : table < 64). h)
    (λ (h : 64 ≤ table). let e = head_past stream table h in absurd (omega (arith, seen, e, r.first, r.last)))
    (cases_lt table 64)

-- a row stands in the stream
pub row_within : (stream : List ℕ) (head : Head) (table rid : ℕ) → OpensTables stream head → IsRowOf head table rid →
    first_place head table + (rid - 1) * table_row_width head.counts table + table_row_width head.counts table ≤ length stream
row_within stream head table rid o r =
    let w = table_row_width head.counts table in
    let below = table_below stream head table rid o r in
    let more = first_place-more head table in
    let mono = first_place-mono head (table + 1) 64 (omega arith) in
    let stands : first_place head 64 ≤ length stream = subst (λ h. first_place h 64 ≤ length stream) (sym o.seen) o.whole.stands in
    let whole : (rid - 1 + 1) * w ≤ rows_of head.counts table * w = mul-le-mul_right w (omega (arith, r.first, r.last)) in
    let split : (rid - 1 + 1) * w ≡ (rid - 1) * w + 1 * w = add-mul (rid - 1) 1 w in
    omega (arith, more, mono, stands, whole, split)

column_in : (cs : Option (List ColumnOf)) (column : ℕ) (found : ColumnOf) → option_and_then (λ columns. slice_get columns column) cs ≡ Some found → (columns : List ColumnOf) × (cs ≡ Some columns) × (slice_get columns column ≡ Some found)
column_in None column found e = absurd (cc)
column_in (Some columns) column found e = (columns, refl, e)

-- the columns of a table that has this one
pub columns_with : (table column : ℕ) (found : ColumnOf) → column_of table column ≡ Some found → (columns : List ColumnOf) × (columns_of table ≡ Some columns) × (slice_get columns column ≡ Some found)
columns_with table column found e = column_in (columns_of table) column found e

-- a column stands in its row
pub offset_within : (counts : Counts) (table column : ℕ) (found : ColumnOf) → column_of table column ≡ Some found →
    offset_of counts table column + column_width_of found.kind counts ≤ table_row_width counts table
unfolding offset_of table_row_width columns_width
offset_within counts table column found e =
    let (columns, all, at) = columns_with table column found e in
    let f : ColumnOf → ℕ = λ c. column_width_of c.kind counts in
    let within = slice_get_within columns column found at in
    let read = get_or_from_slice_get columns column found found at in
    let sum = sum_by_more_le f columns column found within in
    let here : sum_by f (take column columns) + f found ≤ sum_by f columns = subst (λ c. sum_by f (take column columns) + f c ≤ sum_by f columns) read sum in
    subst (λ o. option_map_or (λ cs. sum_by f (take column cs)) o 0 + f found ≤ option_map_or (λ cs. sum_by f cs) o 0) (sym all) here

pub some_is : {A : Type 0} (o : Option A) → IsSome o → (x : A) × (o ≡ Some x)
some_is None h = absurd (cc)
some_is (Some x) h = (x, refl)

pub cell_within : (stream : List ℕ) (head : Head) (table rid column : ℕ) (found : ColumnOf) → OpensTables stream head → IsRowOf head table rid → column_of table column ≡ Some found →
    place_of head table rid column + column_width_of found.kind head.counts ≤ length stream
unfolding place_of
cell_within stream head table rid column found o r e =
    let row = row_within stream head table rid o r in
    let inside = offset_within head.counts table column found e in
    omega (arith, row, inside)

pub offset-take : (counts : Counts) (table column : ℕ) (cs : List Column) → Some (seen_columns cs) ≡ columns_of table →
    offset_of counts table column ≡ sum_by (λ c. column_width_of c.kind counts) (take column cs)
unfolding offset_of
offset-take counts table column cs e =
    ap (λ o. option_map_or (λ columns. columns_width counts (take column columns)) o 0) (sym e)
    ∙ ap (columns_width counts) (take-map seen_column column cs) ∙ columns_width-seen counts (take column cs)
